-- The ranges of the chip's state, as docs/RANGES.md lists them, in plain numbers, and what is refused with 1 and 2. Data addresses are below
-- data_end and status addresses below status_end: 0800h and 140h for the DS2505. What a row does not bound, as registers, a CRC and the byte of
-- an armed chip, may be anything, and the registration number any eight bytes.
use Rattle.std.specs.Prelude.{ℕ, ◌<◌, ◌≤◌, ◌≡◌, Bool, true, List, [], ◌↔◌, length}
use Rattle.base_types.specs.Outcome.{refused, accepted}
use Rattle.base_types.specs.declared.address.Target.{Target}
use Rattle.base_types.specs.declared.address.Target.TheVariants.{Data, Status}
use Rattle.bus_events.specs.declared.Event.{Event}
use Rattle.chip_rom.specs.declared.RomStage.TheVariants.{Command, Number}
use Rattle.chip_stage.specs.declared.stage.Incoming.TheVariants.{Command as CommandByte, AddressLow, AddressHigh, Data as DataByte}
use Rattle.chip_stage.specs.declared.stage.Outgoing.{Outgoing}
use Rattle.chip_stage.specs.declared.stage.Outgoing.TheVariants.{MemoryData, MemoryCrc, StatusData, StatusCrc, RedirectionByte, RedirectionCrc, PageData, PageCrc, WriteCrc, ReadBack}
use Rattle.chip_stage.specs.declared.stage.MemoryStage.TheVariants.{Silent, Receive, Send, Armed}
use Rattle.chip_entries.specs.declared.event.Stage.{Stage}
use Rattle.chip_entries.specs.declared.event.Stage.TheVariants.{Rom, Memory}
use Rattle.chip_entries.specs.Event.{power_up, chip_in_range}
use Rattle.chip_entries.specs.Run.{Chip, next, draws}

-- ---- the list

abbrev pub TargetListed : ℕ → ℕ → Target → Type 0
TargetListed data_end status_end (Data a) = a.0 < data_end
TargetListed data_end status_end (Status a) = a.0 < status_end

-- some of so many bits are left
abbrev pub BitsLeft : ℕ → ℕ → Type 0
BitsLeft left all = (1 ≤ left) × (left ≤ all)

abbrev pub SendListed : ℕ → ℕ → Outgoing → ℕ → Type 0
SendListed data_end status_end (MemoryData a) left = BitsLeft left 8 × (a.0 < data_end)
SendListed data_end status_end MemoryCrc left = BitsLeft left 16
SendListed data_end status_end (StatusData a) left = BitsLeft left 8 × (a.0 < status_end)
SendListed data_end status_end (StatusCrc a) left = BitsLeft left 16 × (a.0 < status_end)
SendListed data_end status_end (RedirectionByte a) left = BitsLeft left 8 × (a.0 < data_end)
SendListed data_end status_end (RedirectionCrc a) left = BitsLeft left 16 × (a.0 < data_end)
SendListed data_end status_end (PageData a) left = BitsLeft left 8 × (a.0 < data_end)
SendListed data_end status_end (PageCrc a) left = BitsLeft left 16 × (a.0 < data_end)
SendListed data_end status_end (WriteCrc t byte) left = BitsLeft left 16 × TargetListed data_end status_end t
SendListed data_end status_end (ReadBack mode t) left = BitsLeft left 8 × TargetListed data_end status_end t

abbrev pub ChipListed : ℕ → ℕ → Stage → Type 0
ChipListed data_end status_end (Rom (Command k register)) = k ≤ 7
ChipListed data_end status_end (Rom (Number step i)) = i ≤ 63
ChipListed data_end status_end (Memory Silent) = Unit
ChipListed data_end status_end (Memory (Receive CommandByte k register crc)) = k ≤ 7
ChipListed data_end status_end (Memory (Receive (AddressLow c) k register crc)) = k ≤ 7
ChipListed data_end status_end (Memory (Receive (AddressHigh c low) k register crc)) = k ≤ 7
ChipListed data_end status_end (Memory (Receive (DataByte mode t) k register crc)) = (k ≤ 7) × TargetListed data_end status_end t
ChipListed data_end status_end (Memory (Send what left v crc)) = SendListed data_end status_end what left
ChipListed data_end status_end (Memory (Armed mode t byte)) = TargetListed data_end status_end t

-- ---- what is refused, and what is handed back

-- of a chip with n pages and an image of so many bytes
pub record ChipRanges (n size data_end status_end : ℕ) : Type 0 where
  -- the test is the list
  pub listed : (s : Stage) → (chip_in_range n s ≡ true) ↔ ChipListed data_end status_end s
  -- 1 for an image of another length, whatever the state; then 2 for a state outside the list. State and image stay as they were.
  pub other_length : (c : Chip) (e : Event) → (length c.image ≡ size → ⊥) → (draws n c e ≡ refused 1 []) × (next n c e ≡ c)
  pub outside : (c : Chip) (e : Event) → length c.image ≡ size → (ChipListed data_end status_end c.state.stage → ⊥) → (draws n c e ≡ refused 2 []) × (next n c e ≡ c)
  -- nothing else is refused: a state in the list draws a reply from every event ..
  pub within : (c : Chip) (e : Event) → length c.image ≡ size → ChipListed data_end status_end c.state.stage → (reply : Bool) × (draws n c e ≡ accepted reply)
  -- .. and never 2, whatever the image
  pub never_2 : (c : Chip) (e : Event) (values : List ℕ) → ChipListed data_end status_end c.state.stage → draws n c e ≡ refused 2 values → ⊥
  -- the state at power-up is in the list, and an event leaves a state there, whatever the image and its length
  pub power_up_law : (number : List ℕ) → ChipListed data_end status_end (power_up number).stage
  pub stays : (c : Chip) (e : Event) → ChipListed data_end status_end c.state.stage → ChipListed data_end status_end (next n c e).state.stage
