-- The inner steps of the number read, as the code takes them: what a reply does to a state, and what is told on the way into one.
-- The state says which event was last sent. What the calls do as a whole is said by the script, in master_number_laws.
use Rattle.std.specs.Prelude.{ℕ, ◌+◌, ◌-◌, ◌%◌, Bool, true, false, cond, List, Result, Ok, Err, ltb, set}
use Rattle.base_types.specs.declared.refusal.Refusal.{Refusal}
use Rattle.base_types.specs.Bits.{bit_at, shift_in}
use Rattle.bus_events.specs.declared.Next.{Next}
use Rattle.bus_events.specs.declared.Next.TheVariants.{Send, End}
use Rattle.bus_events.specs.Events.{reset, slot, read_slot}
use Rattle.master_number.specs.declared.Phase.{Phase}
use Rattle.master_number.specs.declared.Phase.TheVariants.{Begin, Presence, Command, Receive, Closing, Done, Stopped}
use Rattle.master_number.specs.declared.NumberStop.{NumberStop}
use Rattle.master_number.specs.declared.NumberStop.TheVariants.{NoPresence, Crc8, Family}
use Rattle.master_number.specs.declared.NumberRead.{NumberRead}
use Rattle.master_number.specs.Number.{crc_fits, family_fits, number_stop}

abbrev pub number_with : NumberRead → Phase → NumberRead
number_with s phase = record { phase = phase; bytes = s.bytes }

abbrev pub number_stopped : NumberRead → NumberStop → NumberRead
number_stopped s cause = number_with s (Stopped cause)

-- ---- what a reply does

-- the reply to a reset: 13 where no chip is there
unfoldable pub number_presence : NumberRead → Bool → NumberRead
number_presence s true = number_stopped s NoPresence
number_presence s false = number_with s (Command 0)

unfoldable pub after_read_rom : ℕ → Phase
after_read_rom i = cond (ltb i 7) (Command (i + 1)) (Receive 0 8 0)

-- 14 before 15
unfoldable pub family_judged : NumberRead → NumberRead
family_judged s = cond (family_fits s.bytes) (number_with s Closing) (number_stopped s Family)

unfoldable pub crc_judged : NumberRead → NumberRead
crc_judged s = cond (crc_fits s.bytes) (family_judged s) (number_stopped s Crc8)

abbrev pub number_stored : NumberRead → ℕ → ℕ → NumberRead
number_stored s k v = record { phase = s.phase; bytes = set s.bytes k v }

-- byte k is in; after the last one the number is judged
unfoldable pub number_byte_in : NumberRead → ℕ → NumberRead
number_byte_in s k = cond (ltb k 7) (number_with s (Receive (k + 1) 8 0)) (crc_judged s)

unfoldable pub number_bit_in : NumberRead → ℕ → ℕ → ℕ → NumberRead
number_bit_in s k left v = cond (ltb 1 left) (number_with s (Receive k (left - 1) v)) (number_byte_in (number_stored s k v) k)

-- the reply to the closing reset
unfoldable pub number_closed : NumberRead → Bool → NumberRead
number_closed s true = number_stopped s NoPresence
number_closed s false = number_with s Done

unfoldable pub number_next_at : Phase → NumberRead → Bool → NumberRead
number_next_at Begin s reply = number_with s Presence
number_next_at Presence s reply = number_presence s reply
number_next_at (Command i) s reply = number_with s (after_read_rom i)
number_next_at (Receive k left v) s reply = number_bit_in s k left (shift_in v reply)
number_next_at Closing s reply = number_closed s reply
number_next_at Done s reply = s
number_next_at (Stopped cause) s reply = s

abbrev pub number_next : NumberRead → Bool → NumberRead
number_next s reply = number_next_at s.phase s reply

-- ---- what is told on the way into a state

-- the end hands over the state's bytes
unfoldable pub number_phase_answer : Phase → List ℕ → Result (Next (List ℕ)) Refusal
number_phase_answer Begin bytes = Ok (Send reset)
number_phase_answer Presence bytes = Ok (Send reset)
number_phase_answer (Command i) bytes = Ok (Send (slot (bit_at 0x33 (i % 8))))
number_phase_answer (Receive k left v) bytes = Ok (Send read_slot)
number_phase_answer Closing bytes = Ok (Send reset)
number_phase_answer Done bytes = Ok (End bytes)
number_phase_answer (Stopped cause) bytes = Err (number_stop cause)
