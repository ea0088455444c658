-- A master fed a list of replies, a byte each.
use Rattle.std.specs.Prelude.{ℕ, Bool, true, ◌&&◌, List, [], ◌∷◌, map, eqb, ltb, length}
use Rattle.std.specs.List.{list_all}
use Rattle.base_types.specs.Outcome.{Outcome, refused, accepted, Done, unless_refused, following, in_order}
use Rattle.bus_events.specs.Events.{reset}
use Rattle.bus_events.specs.Codes.{code_of}
use Rattle.bus_scripts.specs.Next.{Next, send, tells}
use Rattle.bus_scripts.specs.Joint as joint

-- the bytes are replies, 0 or 1
unfoldable pub are_replies : List ℕ → Bool
are_replies codes = list_all (λ code. ltb code 2) codes

-- a buffer has a byte for each reply
abbrev pub as_many : List ℕ → List ℕ → Bool
as_many codes events = eqb (length events) (length codes)

abbrev pub reply_at : ℕ → Bool
reply_at c = eqb c 1

abbrev pub replies_at : List ℕ → List Bool
replies_at codes = map reply_at codes

-- the byte of a call's answer: its event, or FFh where it tells none
unfoldable pub call_code : Outcome Next → ℕ
call_code (accepted (send e)) = code_of e
call_code (accepted (tells values)) = 0xFF
call_code (refused k values) = 0xFF

-- the last of the answers; where there are none, the one given
unfoldable pub last_from : Outcome Next → List (Outcome Next) → Outcome Next
last_from told [] = told
last_from told (a ∷ rest) = last_from a rest

-- before the first call: the reset to come
abbrev pub to_come : Outcome Next
to_come = accepted (send reset)

-- 2 for a state outside its ranges and for a byte that is no reply, 10 for a buffer
abbrev pub fed_judged : Bool → List ℕ → Bool → Outcome Done
fed_judged ranges codes lengths = in_order true (ranges && are_replies codes) lengths

-- any master, by the state after a call and what it tells
module _ {S : Type 0} (call : S → Bool → S) (told : S → Bool → Outcome Next) where
  -- the state after the calls, and what they told
  abbrev pub fed_calls : S → List ℕ → S
  fed_calls s codes = joint.calls call told s (replies_at codes)

  abbrev pub fed_answers : S → List ℕ → List (Outcome Next)
  fed_answers s codes = joint.answers call told s (replies_at codes)

  -- after a judgement: what the last call told; the state; a byte for each call's answer
  abbrev pub last_told : Outcome Done → S → List ℕ → Outcome Next
  last_told judged s codes = following judged (last_from to_come (fed_answers s codes))

  abbrev pub last_state : Outcome Done → S → List ℕ → S
  last_state judged s codes = unless_refused judged (fed_calls s codes) s

  abbrev pub event_bytes : Outcome Done → S → List ℕ → List ℕ → List ℕ
  event_bytes judged s codes events = unless_refused judged (map call_code (fed_answers s codes)) events
