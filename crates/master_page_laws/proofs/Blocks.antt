-- The blocks of a page read, a visit and a page's data, as whole runs of their scripts: put together and taken apart.
use Prim.Native.Nat.{ℕ, ◌<◌}
use mathlib.Core.Bool.{Bool}
use mathlib.Core.List.{List, [], ◌∷◌, ◌++◌}
use mathlib.Core.Path.{◌≡◌, sym, ◌∙◌, subst}
use native.Mathlib.Omega.{arith}
use lib.ListN.{length}
use Rattle.base_types.specs.Bits.{bits_of_bytes}
use Rattle.base_types.specs.Outcome.{Outcome, refused, accepted}
use Rattle.base_types.proofs.Words.{bytes_length}
use Rattle.bus_events.specs.declared.Event.{Event}
use Rattle.bus_scripts.specs.Next.{Next, tells}
use Rattle.bus_scripts.specs.Script.{Script, gives, reset, read_byte, read_crc}
use Rattle.bus_scripts.proofs.Runs.{Runs, given, sent, Passes, ◌and-then◌, reset_runs, send_runs, read_runs, crc_runs, bytes_runs}
use Rattle.bus_scripts.proofs.Runs.{Goes, onward, reset_passed, send_passed, read_passed, crc_passed, bytes_passed, given_is}
use Rattle.chip_session_laws.specs.Session.{Bytes}
use Rattle.master_page_laws.specs.Script.{read_command, crc_word}
use Rattle.master_page_laws.specs.Script.{visit_script, final_script}
use Rattle.master_page_laws.specs.Heard.{visit_events, visit_replies, data_events, data_replies}

-- ---- the visit

-- from the redirection byte on
abbrev byte_script : ℕ → (ℕ → Script) → ℕ → Script
byte_script p on byte = read_crc (crc_word (read_command p ++ (byte ∷ []))) (on byte)

word_small : (bytes : List ℕ) → crc_word bytes < 65536
word_small bytes = omega arith

pub command_length : (p : ℕ) → length (bits_of_bytes (0xCC ∷ read_command p)) ≡ 32
command_length p = bytes_length (0xCC ∷ read_command p)

pub visit_runs : (p b : ℕ) (ignored : List Bool) (on : ℕ → Script) → length ignored ≡ 32 → b < 256
    → Passes (visit_script p on) (visit_replies ignored p b) (visit_events p) (on b)
unfolding visit_script
visit_runs p b ignored on l small =
    reset_runs and-then send_runs (bits_of_bytes (0xCC ∷ read_command p)) ignored (l ∙ sym (command_length p)) and-then read_runs 8 b (byte_script p on) small
    and-then crc_runs (crc_word (read_command p ++ (b ∷ []))) (on b) (word_small (read_command p ++ (b ∷ [])))

pub record Visited (told : Outcome Next) (handed : List ℕ) (p : ℕ) (on : ℕ → Script) (rs : List Bool) (es : List Event) : Type 0 where
  pub ignored : List Bool
  pub byte : ℕ
  pub long : length ignored ≡ 32
  pub small : byte < 256
  pub goes : Goes told handed (visit_replies ignored p byte) (visit_events p) (on byte) rs es

-- an end that is neither 13 nor 6
pub record Verdicts (told : Outcome Next) : Type 0 where
  pub present : told ≡ refused 13 [] → ⊥
  pub sound : told ≡ refused 6 [] → ⊥

pub visit_passed : (p : ℕ) (on : ℕ → Script) {rs : List Bool} {es : List Event} {told : Outcome Next} {handed : List ℕ} → Verdicts told → Runs (visit_script p on) rs es told handed
    → Visited told handed p on rs es
unfolding visit_script
visit_passed p on v h =
    let a = reset_passed v.present h in
    let s = send_passed (bits_of_bytes (0xCC ∷ read_command p)) (read_byte (byte_script p on)) a.runs in
    let b = read_passed 8 (byte_script p on) s.goes.runs in
    let c = crc_passed (crc_word (read_command p ++ (b.value ∷ []))) (on b.value) v.sound b.goes.runs in
    record { ignored = s.value; byte = b.value; long = s.fine ∙ command_length p; small = b.fine; goes = onward a (onward s.goes (onward b.goes c)) }

-- ---- the data

abbrev data_script : ℕ → ℕ → List ℕ → Script
data_script p hops bytes = read_crc (crc_word bytes) (reset (gives (p ∷ hops ∷ []) bytes))

pub final_runs : (p hops : ℕ) (bytes : List ℕ) → length bytes ≡ 32 → Bytes bytes
    → Runs (final_script p hops) (data_replies bytes) data_events (accepted (tells (p ∷ hops ∷ []))) bytes
unfolding final_script
final_runs p hops bytes l small =
    (bytes_runs 32 bytes (data_script p hops) l small).run _ _ _ _
    ((crc_runs (crc_word bytes) (reset (gives (p ∷ hops ∷ []) bytes)) (word_small bytes)).run _ _ _ _ (sent given))

pub record Delivered (told : Outcome Next) (handed : List ℕ) (p hops : ℕ) (rs : List Bool) (es : List Event) : Type 0 where
  pub long : length handed ≡ 32
  pub small : Bytes handed
  pub replies : rs ≡ data_replies handed
  pub events : es ≡ data_events
  pub end : told ≡ accepted (tells (p ∷ hops ∷ []))

pub final_passed : (p hops : ℕ) {rs : List Bool} {es : List Event} {told : Outcome Next} {handed : List ℕ} → Verdicts told → Runs (final_script p hops) rs es told handed
    → Delivered told handed p hops rs es
unfolding final_script
final_passed p hops {rs} {es} {told} {handed} v h =
    let b = bytes_passed 32 (data_script p hops) h in
    let c = crc_passed (crc_word b.value) (reset (gives (p ∷ hops ∷ []) b.value)) v.sound b.goes.runs in
    let e = given_is (onward b.goes (onward c (reset_passed v.present c.runs))) in
    subst (λ (x : List ℕ). Delivered told x p hops rs es) (sym e.3) (record { long = b.fine.0; small = b.fine.1; replies = e.0; events = e.1; end = e.2 })
