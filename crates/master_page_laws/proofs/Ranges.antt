-- The ranges are those listed, every start and every call keep to them, and the bytes of a state keep their length.
use Prim.Native.Nat.{ℕ, ◌+◌, ◌/◌, ◌<◌, ◌≤◌}
use mathlib.Core.Path.{◌≡◌, refl, sym, ap, ◌∙◌}
use mathlib.Core.Bool.{Bool, true, false, not}
use mathlib.Core.List.{List, [], ◌++◌, ◌∷◌}
use mathlib.Core.Logic.{◌↔◌}
use native.Mathlib.Omega.{arith}
use lib.Dec.{eqb, ltb}
use lib.ListN.{length, length-set}
use borrow.Author.Tests.{lt-ltb, le-ltb, ltb-true, ne_eqb}
use Rattle.base_types.specs.Outcome.{refused, accepted, judge}
use Rattle.base_types.specs.Refusal.{number_of, values_of}
use Rattle.base_types.specs.declared.address.Page.{Page}
use Rattle.base_types.proofs.Tests.{both, either, beyond}
use Rattle.chip_memory.specs.Layout.{is_page}
use Rattle.chip_memory.proofs.Sizes.{page_below}
use Rattle.chip_chain.specs.Walk.{named_by}
use Rattle.bus_scripts.proofs.Ranges.{out_means, out_is, one_less}
use Rattle.master_page.specs.declared.Part.{Part}
use Rattle.master_page.specs.declared.Part.TheVariants.{Redirection, RedirectionCrc, Data, DataCrc}
use Rattle.master_page.specs.declared.Phase.{Phase}
use Rattle.master_page.specs.declared.Phase.TheVariants.{Begin, Presence, Command, Receive, Closing, Done, Stopped}
use Rattle.master_page.specs.declared.PageStop.{PageStop}
use Rattle.master_page.specs.declared.PageStop.TheVariants.{PageNumber, Loop, Outside, Crc16, NoPresence}
use Rattle.master_page.specs.declared.PageRead.{PageRead}
use Rattle.master_page.specs.Page.{page_stop}
use Rattle.master_page_laws.specs.Script.{read_command, crc_word}
use Rattle.master_page.specs.Code.PageSteps.{word_shift_in, page_with, page_presence, after_extended_read, hopped, page_named, byte_followed, redirection_judged}
use Rattle.master_page.specs.Code.PageSteps.{next_data, data_judged, part_in, page_bit_in, page_closed, page_next_at, page_next, page_phase_answer}
use Rattle.master_page.specs.PageRead.{part_in_range, part_width, page_receive_in_range, page_stop_in_range, page_phase_in_range, page_in_range, page_begun, refused_start}
use Rattle.master_page.specs.PageRead.{start_answer, start_state, read_outcome, page_shown, read_answer, read_state, read_buffer}
use Rattle.master_page_laws.specs.Ranges.{PartListed, page_stops, PagePhaseListed, PageListed}

-- within the ranges, with so many bytes
pub record Within (n size : ℕ) (s : PageRead) : Type 0 where
  pub page : s.page.0 < n
  pub hops : s.hops < n
  pub phase : page_phase_in_range n s.phase ≡ true
  pub sized : length s.bytes ≡ size

is_page_lem : (n p : ℕ) → p < n → is_page n p ≡ true
unfolding is_page
is_page_lem n p h = lt-ltb p n h

-- what the ranges say
pub page_within : (n : ℕ) (s : PageRead) → page_in_range n s ≡ true → Within n (length s.bytes) s
unfolding page_in_range
page_within n s h =
    let a = both (is_page n s.page.0) _ h in
    let b = both (ltb s.hops n) _ a.1 in
    record { page = page_below n s.page.0 a.0; hops = ltb-true s.hops n b.0; phase = b.1; sized = refl }

pub in_range_lem : (n : ℕ) {size : ℕ} (s : PageRead) → Within n size s → page_in_range n s ≡ true
unfolding page_in_range
in_range_lem n s w = simp (is_page_lem n s.page.0 w.page, lt-ltb s.hops n w.hops, w.phase)

-- ---- the list

part_is : (part : Part) (left : ℕ) → (page_receive_in_range part left ≡ true) ↔ PartListed part left
unfolding page_receive_in_range
part_is Redirection left = (λ h. (out_means 8 true left h).0, λ l. out_is 8 true left l refl)
part_is (RedirectionCrc b) left = (λ h. (out_means 16 true left h).0, λ l. out_is 16 true left l refl)
part_is (Data k) left = (
  λ h. let o = out_means 8 (ltb k 32) left h in (omega (arith, ltb-true k 32 o.1), o.0),
  λ l. out_is 8 (ltb k 32) left l.1 (lt-ltb k 32 (omega (arith, l.0))),
)
part_is DataCrc left = (λ h. (out_means 16 true left h).0, λ l. out_is 16 true left l refl)

stop_is : (n : ℕ) (cause : PageStop) → page_stop_in_range n cause ≡ page_stops n (number_of (page_stop cause)) (values_of (page_stop cause))
unfolding page_stop_in_range is_page
stop_is n PageNumber = refl
stop_is n Loop = refl
stop_is n (Outside x) = beyond n x
stop_is n Crc16 = refl
stop_is n NoPresence = refl

phase_is : (n : ℕ) (phase : Phase) → (page_phase_in_range n phase ≡ true) ↔ PagePhaseListed n phase
unfolding page_phase_in_range
phase_is n Begin = (λ h. tt, λ l. refl)
phase_is n Presence = (λ h. tt, λ l. refl)
phase_is n (Command i) = (λ h. omega (arith, ltb-true i 32 h), λ l. lt-ltb i 32 (omega arith))
phase_is n (Receive part left register) = part_is part left
phase_is n Closing = (λ h. tt, λ l. refl)
phase_is n Done = (λ h. tt, λ l. refl)
phase_is n (Stopped cause) = (λ h. sym (stop_is n cause) ∙ h, λ l. stop_is n cause ∙ l)

pub page_listed : (n : ℕ) (s : PageRead) → (page_in_range n s ≡ true) ↔ PageListed n s
page_listed n s = (
  λ h. let w = page_within n s h in record { page = w.page; hops = w.hops; phase = (phase_is n s.phase).0 w.phase },
  λ l. in_range_lem n s (record { page = l.page; hops = l.hops; phase = (phase_is n s.phase).1 l.phase; sized = refl }),
)

-- ---- calls

module _ (n : ℕ) where
  abbrev Ranged : Phase → Type 0
  Ranged phase = page_phase_in_range n phase ≡ true

  module _ {size : ℕ} (s : PageRead) (w : Within n size s) where
    with_in : (phase : Phase) → Ranged phase → Within n size (page_with s phase)
    with_in phase h = record { page = w.page; hops = w.hops; phase = h; sized = w.sized }

    hop_in : (x : ℕ) → x < n → Within n size (hopped n s x)
    unfolding hopped page_phase_in_range page_stop_in_range
    hop_in x l =
        either (Within n size) (ltb (s.hops + 1) n) _ _ (λ t. record { page = l; hops = ltb-true (s.hops + 1) n t; phase = refl; sized = w.sized }) (λ _. with_in _ refl)

    follow_in : (b : ℕ) → Within n size (byte_followed n s b)
    unfolding byte_followed page_named page_phase_in_range page_receive_in_range page_stop_in_range
    follow_in b =
        either (Within n size) (eqb b 255) _ _ (λ _. with_in _ refl)
        (λ _. either (Within n size) (is_page n (named_by b)) _ _ (λ t. hop_in (named_by b) (page_below n (named_by b) t)) (λ f. with_in _ (ap not f)))

    part_in_lem : (part : Part) (v : ℕ) → Within n size (part_in n s part v)
    unfolding part_in redirection_judged next_data data_judged page_phase_in_range page_receive_in_range page_stop_in_range
    part_in_lem Redirection v = with_in _ refl
    part_in_lem (RedirectionCrc b) v =
        either (Within n size) (eqb v (crc_word (read_command s.page.0 ++ (b.0 ∷ [])))) _ _ (λ _. follow_in b.0) (λ _. with_in _ refl)
    part_in_lem (Data k) v =
        record {
          page = w.page;
          hops = w.hops;
          phase = either Ranged (ltb k 31) _ _ (λ t. lt-ltb (k + 1) 32 (omega (arith, ltb-true k 31 t))) (λ _. refl);
          sized = length-set s.bytes k (v / 256) ∙ w.sized;
        }
    part_in_lem DataCrc v = either (Within n size) (eqb v (crc_word s.bytes)) _ _ (λ _. with_in _ refl) (λ _. with_in _ refl)

    next_in : (phase : Phase) (reply : Bool) → Ranged phase → Within n size (page_next_at n phase s reply)
    unfolding page_next_at page_presence after_extended_read page_closed page_bit_in page_phase_in_range page_receive_in_range page_stop_in_range
    next_in Begin reply h = with_in _ refl
    next_in Presence true h = with_in _ refl
    next_in Presence false h = with_in _ refl
    next_in (Command i) reply h =
        with_in _ (either Ranged (ltb i 31) _ _ (λ t. lt-ltb (i + 1) 32 (omega (arith, ltb-true i 31 t))) (λ _. refl))
    next_in (Receive part left v) reply h =
        either (Within n size) (ltb 1 left) _ _ (λ t. with_in _ (one_less (part_width part) (part_in_range part) left (ltb-true 1 left t) h)) (λ _. part_in_lem part (word_shift_in v reply))
    next_in Closing true h = with_in _ refl
    next_in Closing false h = with_in _ refl
    next_in Done reply h = w
    next_in (Stopped cause) reply h = w

  pub kept : {size : ℕ} (s : PageRead) (reply : Bool) → Within n size s → Within n size (page_next n s reply)
  kept s reply w = next_in s w s.phase reply w.phase

  pub page_keeps : (s : PageRead) (reply : Bool) (buffer : List ℕ) → page_in_range n s ≡ true → page_in_range n (read_state n s reply buffer) ≡ true
  unfolding read_state
  page_keeps s reply buffer h =
      either (λ x. page_in_range n x ≡ true) (page_in_range n s) _ _
      (λ _. either (λ x. page_in_range n x ≡ true) (eqb (length buffer) 32) _ _ (λ _. in_range_lem n _ (kept s reply (page_within n s h))) (λ _. h)) (λ _. h)

  pub started_in : 0 < n → (p : ℕ) → Within n 32 (start_state n p)
  unfolding start_state page_begun refused_start page_phase_in_range page_stop_in_range
  started_in l p =
      either (Within n 32) (is_page n p) _ _ (λ t. record { page = page_below n p t; hops = l; phase = refl; sized = refl })
      (λ _. record { page = l; hops = l; phase = refl; sized = refl })

  pub page_starts : 0 < n → (p : ℕ) → page_in_range n (start_state n p) ≡ true
  page_starts l p = in_range_lem n (start_state n p) (started_in l p)

  pub start_ready : (p : ℕ) → p < n → start_answer n p ≡ accepted []
  unfolding start_answer
  start_ready p l = simp (is_page_lem n p l)

  pub start_refused : (p : ℕ) → n ≤ p → start_answer n p ≡ refused 3 []
  unfolding start_answer is_page
  start_refused p l = simp (le-ltb p n l)

  -- ---- number 2

  pub page_outside : (s : PageRead) (reply : Bool) (buffer : List ℕ) → page_in_range n s ≡ false
      → (read_answer n s reply buffer ≡ refused 2 []) × (read_state n s reply buffer ≡ s) × (read_buffer n s reply buffer ≡ buffer)
  unfolding read_answer read_state read_buffer
  page_outside s reply buffer h = (simp h, simp h, simp h)

  pub other_buffer : (s : PageRead) (reply : Bool) (buffer : List ℕ) → page_in_range n s ≡ true → (length buffer ≡ 32 → ⊥)
      → (read_answer n s reply buffer ≡ refused 10 []) × (read_state n s reply buffer ≡ s) × (read_buffer n s reply buffer ≡ buffer)
  unfolding read_answer read_state read_buffer
  other_buffer s reply buffer h l = let e = ne_eqb (length buffer) 32 l in (simp (h, e), simp (h, e), simp (h, e))

  not_2 : (phase : Phase) (page : Page) (hops : ℕ) (values : List ℕ) → read_outcome (page_phase_answer phase page hops) ≡ refused 2 values → ⊥
  unfolding page_phase_answer
  not_2 Begin page hops values e = cc
  not_2 Presence page hops values e = cc
  not_2 (Command i) page hops values e = cc
  not_2 (Receive part left v) page hops values e = cc
  not_2 Closing page hops values e = cc
  not_2 Done page hops values e = cc
  not_2 (Stopped PageNumber) page hops values e = cc
  not_2 (Stopped Loop) page hops values e = cc
  not_2 (Stopped (Outside x)) page hops values e = cc
  not_2 (Stopped Crc16) page hops values e = cc
  not_2 (Stopped NoPresence) page hops values e = cc

  pub page_never_2 : (s : PageRead) (reply : Bool) (buffer values : List ℕ) → page_in_range n s ≡ true → read_answer n s reply buffer ≡ refused 2 values → ⊥
  unfolding read_answer
  page_never_2 s reply buffer values h e = go (eqb (length buffer) 32) (simp h at e)
    where
      t : PageRead
      t = page_next n s reply

      go : (room : Bool) → judge room 10 (page_shown t) ≡ refused 2 values → ⊥
      go true e = not_2 t.phase t.page t.hops values e
      go false e = cc
