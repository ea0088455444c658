-- The replies with which a page read ends in a verdict, and the events that it then sends, over the page count n.
use Rattle.std.specs.Prelude.{ℕ, zero, suc, ◌+◌, ◌<◌, ◌≤◌, Bool, false, cond, ◌≡◌, List, [], ◌∷◌, ◌++◌, eqb, ltb, length}
use Rattle.base_types.specs.Bits.{bits_of, bits_of_bytes}
use Rattle.base_types.specs.declared.verdict.Verdict.{Verdict}
use Rattle.base_types.specs.Verdict.{final, loops, outside}
use Rattle.bus_events.specs.declared.Event.{Event}
use Rattle.bus_events.specs.Events.{reset}
use Rattle.bus_events.specs.Slots.{sending, reading}
use Rattle.chip_memory.specs.Image.{redirection_of}
use Rattle.chip_chain.specs.Walk.{named_by}
use Rattle.chip_session_laws.specs.Session.{Bytes}
use Rattle.master_page_laws.specs.Script.{read_command, crc_word}

-- The visit of page p, 57 events: reset, Skip, Extended Read, the address 32p, eight read slots for the redirection byte and sixteen
-- for its CRC.
abbrev pub visit_events : ℕ → List Event
visit_events p = reset ∷ (sending (0xCC ∷ read_command p) ++ (reading 8 ++ reading 16))

-- Its replies: presence, anything while the command goes out, the redirection byte b, and a CRC that agrees with command, address and b.
abbrev pub visit_replies : List Bool → ℕ → ℕ → List Bool
visit_replies ignored p b = false ∷ (ignored ++ (bits_of 8 b ++ bits_of 16 (crc_word (read_command p ++ (b ∷ [])))))

-- the data, their CRC and the closing reset: 272 events and one
abbrev pub data_events : List Event
data_events = reading 256 ++ (reading 16 ++ (reset ∷ []))

-- their replies: the bytes, a CRC that agrees with them alone, presence
abbrev pub data_replies : List ℕ → List Bool
data_replies bytes = bits_of_bytes bytes ++ (bits_of 16 (crc_word bytes) ++ (false ∷ []))

-- a redirection byte that is not FFh
pub record Redirects (b : ℕ) : Type 0 where
  pub small : b < 256
  pub other : b ≡ 255 → ⊥

-- From page p after so many hops, with these replies the reader sends these events and then tells the verdict. The last list is the
-- page that it hands over, under Final.
pub data Heard (n : ℕ) : ℕ → ℕ → List Bool → List Event → Verdict → List ℕ → Type 0 where
  at_final : {p hops : ℕ} (ignored : List Bool) (bytes : List ℕ) → length ignored ≡ 32 → length bytes ≡ 32 → Bytes bytes
      → Heard n p hops (visit_replies ignored p 255 ++ data_replies bytes) (visit_events p ++ data_events) (final p hops) bytes
  at_outside : {p hops : ℕ} (ignored : List Bool) (b : ℕ) → length ignored ≡ 32 → Redirects b → n ≤ named_by b
      → Heard n p hops (visit_replies ignored p b) (visit_events p) (outside (named_by b)) []
  at_loop : {p hops : ℕ} (ignored : List Bool) (b : ℕ) → length ignored ≡ 32 → Redirects b → named_by b < n → n ≤ hops + 1
      → Heard n p hops (visit_replies ignored p b) (visit_events p) loops []
  at_next : {p hops : ℕ} {replies : List Bool} {events : List Event} {v : Verdict} {bytes : List ℕ} (ignored : List Bool) (b : ℕ)
      → length ignored ≡ 32 → Redirects b → named_by b < n → hops + 1 < n → Heard n (named_by b) (hops + 1) replies events v bytes
      → Heard n p hops (visit_replies ignored p b ++ replies) (visit_events p ++ events) v bytes

-- ---- on a chip with an image

-- The events of a read from page p on, with k redirection bytes left to read: a visit for each page of the chain, and a valid page's data.
-- Here b is the redirection byte of each page.
unfoldable pub page_events_from : (ℕ → ℕ) → ℕ → ℕ → ℕ → List Event
page_events_from b n zero p = []
page_events_from b n (suc k) p =
    let onward : List Event = page_events_from b n k (named_by (b p)) in
    visit_events p ++ cond (eqb (b p) 255) data_events (cond (ltb (named_by (b p)) n) onward [])

abbrev pub page_events_for : ℕ → List ℕ → ℕ → List Event
page_events_for n img p = page_events_from (redirection_of n img) n n p
