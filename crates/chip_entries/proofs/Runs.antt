-- Several events, one after the other: what is left to do from place i on is what is to do at the start.
use Prim.Native.Nat.{ℕ, ◌+◌, ◌%◌, ◌<◌, ◌≤◌}
use mathlib.Core.Path.{◌≡◌, refl, sym, ap, ap₂, ◌∙◌}
use mathlib.Core.Bool.{Bool, true}
use mathlib.Core.List.{List, [], ◌∷◌, ◌++◌}
use native.Mathlib.Numerals.{add-one}
use lib.Dec.{eqb}
use lib.ListN.{length, get_or, set, take, drop, drop_of_length-le}
use lib.Seq.{drop-cons}
use Rattle.std.specs.List.{list_all}
use Rattle.base_types.specs.Bits.{one}
use Rattle.base_types.specs.Outcome.{Outcome}
use Rattle.base_types.proofs.Filled.{fill_next, fill_end}
use Rattle.bus_events.specs.declared.Event.{Event}
use Rattle.bus_events.specs.Codes.{is_event, event_of}
use Rattle.chip_memory.specs.Layout.{image_size, is_image}
use Rattle.chip_entries.specs.declared.event.Stage.{Stage}
use Rattle.chip_entries.specs.Event.{chip_in_range, reply_of, image_after, stage_after}
use Rattle.chip_entries.specs.Run.{Chip, chip_with, next, draws, line_of, run, answers, are_events, events_at, reply_bytes}
use Rattle.chip_entries.proofs.Kept.{stage_kept, image_length, accepts, next_is}

-- ---- bytes that are those of events

-- a test of each byte is a test of them all
pub are_events_lem : (codes : List ℕ) → list_all is_event codes ≡ are_events codes
unfolding are_events
are_events_lem [] = refl
are_events_lem (c ∷ cs) = simp (are_events_lem cs)

-- ---- the run

module _ (n : ℕ) (c : Chip) (codes : List ℕ) (i : ℕ) where
  module _ (e : Event) (told : e ≡ event_of (get_or codes i 0)) (h : i < length codes) where
    run_next : run n (next n c e) (events_at (drop (i + 1) codes)) ≡ run n c (events_at (drop i codes))
    unfolding run
    run_next = rw (told, add-one, drop-cons codes i 0 h)

    replies_next : reply_bytes n c (drop i codes) ≡ one (line_of (draws n c e)) ∷ reply_bytes n (next n c e) (drop (i + 1) codes)
    unfolding reply_bytes answers
    replies_next = rw (told, add-one, drop-cons codes i 0 h)

  module _ (h : length codes ≤ i) where
    run_end : run n c (events_at (drop i codes)) ≡ c
    unfolding run
    run_end = rw (drop_of_length-le codes h)

    replies_end : reply_bytes n c (drop i codes) ≡ []
    unfolding reply_bytes answers
    replies_end = rw (drop_of_length-le codes h)

-- what holds before event number i of a run that started with the chip c₀
pub record Midway (n : ℕ) (c₀ : Chip) (codes : List ℕ) (i : ℕ) (c : Chip) (replies : List ℕ) : Type 0 where
  pub sized : is_image n c.image ≡ true
  pub ranged : chip_in_range n c.state.stage ≡ true
  pub left : run n c (events_at (drop i codes)) ≡ run n c₀ (events_at codes)
  pub lines : take i replies ++ reply_bytes n c (drop i codes) ≡ reply_bytes n c₀ codes

image_sized : (n : ℕ) (img img' : List ℕ) → length img' ≡ length img → is_image n img ≡ true → is_image n img' ≡ true
unfolding is_image
image_sized n img img' l h = ap (λ (k : ℕ). eqb k (image_size n)) l ∙ h

-- one event more
pub midway : (n : ℕ) (whole : n % 8 ≡ 0) (c₀ : Chip) (codes replies : List ℕ) (i : ℕ) (c : Chip)
    → i < length codes → i < length replies → Midway n c₀ codes i c replies
    → (e : Event) (stage' : Stage) (img' : List ℕ) (b : ℕ)
    → e ≡ event_of (get_or codes i 0)
    → img' ≡ image_after n c.state.stage e c.image
    → stage' ≡ stage_after n c.state.stage e c.state.number img'
    → b ≡ one (reply_of c.state.stage e c.state.number)
    → Midway n c₀ codes (i + 1) (chip_with stage' c.state.number img') (set replies i b)
midway n whole c₀ codes replies i c h hr m e stage' img' b ee ei es eb =
    let stage : Stage = c.state.stage in
    let number : List ℕ = c.state.number in
    let img : List ℕ = c.image in
    let there : next n c e ≡ chip_with stage' number img' =
    next_is n c m.sized m.ranged e
    ∙ ap (λ (x : List ℕ). chip_with (stage_after n stage e number x) number x) (sym ei)
    ∙ ap (λ (x : Stage). chip_with x number img') (sym es) in
    let line : one (line_of (draws n c e)) ≡ b = ap (λ (a : Outcome Bool). one (line_of a)) (accepts n c m.sized m.ranged e) ∙ sym eb in
    record {
      sized = image_sized n img img' (ap length ei ∙ image_length n stage e img) m.sized;
      ranged = ap (chip_in_range n) es ∙ stage_kept n whole stage e number img' m.ranged;
      left = ap (λ (x : Chip). run n x (events_at (drop (i + 1) codes))) (sym there) ∙ run_next n c codes i e ee h ∙ m.left;
      lines =
          fill_next replies (reply_bytes n c (drop i codes)) (reply_bytes n (chip_with stage' number img') (drop (i + 1) codes)) _ i b hr
          (replies_next n c codes i e ee h ∙ ap₂ (λ (x : ℕ) (l : List ℕ). x ∷ l) line (ap (λ (x : Chip). reply_bytes n x (drop (i + 1) codes)) there))
          m.lines;
    }

-- no event is left
module _ (n : ℕ) (c₀ : Chip) (codes replies : List ℕ) (i : ℕ) (c : Chip) (m : Midway n c₀ codes i c replies) (h : length codes ≤ i) where
  pub arrived_chip : c ≡ run n c₀ (events_at codes)
  arrived_chip = sym (run_end n c codes i h) ∙ m.left

  pub arrived_replies : length replies ≤ i → replies ≡ reply_bytes n c₀ codes
  arrived_replies hr = fill_end replies (reply_bytes n c (drop i codes)) _ i hr (replies_end n c codes i h) m.lines
