-- The inner steps of the page read, as the code takes them, over the page count n: what a reply does to a state, and what is told on the way
-- into one. The state says which event was last sent. What the calls do as a whole is said by the script, in master_page_laws.
use Rattle.std.specs.Prelude.{ℕ, ◌+◌, ◌-◌, ◌*◌, ◌/◌, ◌%◌, Bool, true, false, cond, not, [], ◌∷◌, ◌++◌, Result, Ok, Err, ltb, eqb, set}
use Rattle.base_types.specs.declared.refusal.Refusal.{Refusal}
use Rattle.base_types.specs.Bits.{one, bit_at}
use Rattle.base_types.specs.declared.address.Page.{Page}
use Rattle.bus_events.specs.declared.Next.{Next}
use Rattle.bus_events.specs.declared.Next.TheVariants.{Send, End}
use Rattle.bus_events.specs.Events.{reset, slot, read_slot}
use Rattle.chip_memory.specs.Layout.{is_page}
use Rattle.chip_chain.specs.Walk.{named_by}
use Rattle.master_page.specs.declared.Part.{Part}
use Rattle.master_page.specs.declared.Part.TheVariants.{Redirection, RedirectionCrc, Data, DataCrc}
use Rattle.master_page.specs.declared.Phase.{Phase}
use Rattle.master_page.specs.declared.Phase.TheVariants.{Begin, Presence, Command, Receive, Closing, Done, Stopped}
use Rattle.master_page.specs.declared.PageStop.{PageStop}
use Rattle.master_page.specs.declared.PageStop.TheVariants.{Loop, Outside, Crc16, NoPresence}
use Rattle.master_page.specs.declared.PageRead.{PageRead}
use Rattle.master_page.specs.Page.{address_low, address_high, command_bytes, crc_sent, page_stop}

-- ---- what is sent: Skip, Extended Read, and the address 32p

unfoldable pub command_byte : ℕ → ℕ → ℕ
command_byte p k = cond (eqb k 0) 0xCC (cond (eqb k 1) 0xA5 (cond (eqb k 2) (address_low (32 * p)) (address_high (32 * p))))

unfoldable pub command_bit : ℕ → ℕ → Bool
command_bit p i = bit_at (command_byte p (i / 8)) (i % 8)

-- ---- what a reply does

-- the register of sixteen bits that collects what is received: the newest bit on top
abbrev pub word_shift_in : ℕ → Bool → ℕ
word_shift_in v bit = v / 2 + 32768 * one bit

abbrev pub page_with : PageRead → Phase → PageRead
page_with s phase = record { phase = phase; page = s.page; hops = s.hops; bytes = s.bytes }

abbrev pub page_stopped : PageRead → PageStop → PageRead
page_stopped s cause = page_with s (Stopped cause)

-- the reply to a reset: 13 where no chip is there
unfoldable pub page_presence : PageRead → Bool → PageRead
page_presence s true = page_stopped s NoPresence
page_presence s false = page_with s (Command 0)

unfoldable pub after_extended_read : ℕ → Phase
after_extended_read i = cond (ltb i 31) (Command (i + 1)) (Receive Redirection 8 0)

-- on to page x; but the n-th redirection byte that is not FFh means Loop
unfoldable pub hopped : ℕ → PageRead → ℕ → PageRead
hopped n s x =
    cond (ltb (s.hops + 1) n)
    (record { phase = Presence; page = record { 0 = x }; hops = s.hops + 1; bytes = s.bytes })
    (page_stopped s Loop)

-- a byte that names a page above the last one means Outside at once
unfoldable pub page_named : ℕ → PageRead → ℕ → PageRead
page_named n s x = cond (is_page n x) (hopped n s x) (page_stopped s (Outside x))

-- a redirection byte whose CRC agreed
unfoldable pub byte_followed : ℕ → PageRead → ℕ → PageRead
byte_followed n s b = cond (eqb b 255) (page_with s (Receive (Data 0) 8 0)) (page_named n s (named_by b))

-- the CRC that follows the redirection byte b: of command, address and byte
unfoldable pub redirection_judged : ℕ → PageRead → ℕ → ℕ → PageRead
redirection_judged n s b v = cond (eqb v (crc_sent (command_bytes s.page.0 ++ (b ∷ [])))) (byte_followed n s b) (page_stopped s Crc16)

unfoldable pub next_data : ℕ → Phase
next_data k = cond (ltb k 31) (Receive (Data (k + 1)) 8 0) (Receive DataCrc 16 0)

abbrev pub page_stored : PageRead → ℕ → ℕ → PageRead
page_stored s k v = record { phase = next_data k; page = s.page; hops = s.hops; bytes = set s.bytes k v }

-- the CRC that follows a page's bytes: of these alone
unfoldable pub data_judged : PageRead → ℕ → PageRead
data_judged s v = cond (eqb v (crc_sent s.bytes)) (page_with s Closing) (page_stopped s Crc16)

-- all bits of a part are in; those of a byte stand in the register's high half
unfoldable pub part_in : ℕ → PageRead → Part → ℕ → PageRead
part_in n s Redirection v = page_with s (Receive (RedirectionCrc (record { 0 = v / 256 })) 16 0)
part_in n s (RedirectionCrc b) v = redirection_judged n s b.0 v
part_in n s (Data k) v = page_stored s k (v / 256)
part_in n s DataCrc v = data_judged s v

unfoldable pub page_bit_in : ℕ → PageRead → Part → ℕ → ℕ → PageRead
page_bit_in n s part left v = cond (ltb 1 left) (page_with s (Receive part (left - 1) v)) (part_in n s part v)

-- the reply to the closing reset
unfoldable pub page_closed : PageRead → Bool → PageRead
page_closed s true = page_stopped s NoPresence
page_closed s false = page_with s Done

unfoldable pub page_next_at : ℕ → Phase → PageRead → Bool → PageRead
page_next_at n Begin s reply = page_with s Presence
page_next_at n Presence s reply = page_presence s reply
page_next_at n (Command i) s reply = page_with s (after_extended_read i)
page_next_at n (Receive part left v) s reply = page_bit_in n s part left (word_shift_in v reply)
page_next_at n Closing s reply = page_closed s reply
page_next_at n Done s reply = s
page_next_at n (Stopped cause) s reply = s

abbrev pub page_next : ℕ → PageRead → Bool → PageRead
page_next n s reply = page_next_at n s.phase s reply

-- ---- what is told on the way into a state

-- the end hands over the page and the hops
unfoldable pub page_phase_answer : Phase → Page → ℕ → Result (Next (Page × ℕ)) Refusal
page_phase_answer Begin page hops = Ok (Send reset)
page_phase_answer Presence page hops = Ok (Send reset)
page_phase_answer (Command i) page hops = Ok (Send (slot (command_bit page.0 i)))
page_phase_answer (Receive part left v) page hops = Ok (Send read_slot)
page_phase_answer Closing page hops = Ok (Send reset)
page_phase_answer Done page hops = Ok (End (page, hops))
page_phase_answer (Stopped cause) page hops = Err (page_stop cause)

-- the one call that first tells Final: after the closing reset, with presence
abbrev pub finishes : Phase → Bool → Bool
finishes Begin reply = false
finishes Presence reply = false
finishes (Command i) reply = false
finishes (Receive part left v) reply = false
finishes Closing reply = not reply
finishes Done reply = false
finishes (Stopped cause) reply = false
