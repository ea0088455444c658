-- The chip's state and its bytes.
use Prim.Native.Nat.{ℕ, zero, suc, ◌≤◌, ◌<◌}
use mathlib.Core.Path.{◌≡◌, refl}
use mathlib.Core.Logic.{◌≢◌}
use mathlib.Core.Bool.{true, false, ◌&&◌}
use mathlib.Core.List.{List, [], ◌∷◌, ◌++◌}
use native.Mathlib.Omega.{arith}
use lib.Dec.{eqb, ltb}
use lib.ListN.{length, replicate, get_or}
use borrow.Author.Tests.{le-ltb, ne_eqb}
use Rattle.base_types.specs.declared.address.Space.TheVariants.{Data as DataSpace, Status as StatusSpace}
use Rattle.base_types.specs.declared.address.Target.{Target}
use Rattle.base_types.specs.declared.address.Target.TheVariants.{Data, Status}
use Rattle.base_types.specs.declared.write_mode.WriteMode.TheVariants.{Ordinary, Quick}
use Rattle.chip_rom.specs.declared.RomStep.{RomStep}
use Rattle.chip_rom.specs.declared.RomStep.TheVariants.{Read, Match, SearchBit, SearchComplement, SearchTake}
use Rattle.chip_rom.specs.declared.RomStage.TheVariants.{Command as RomCommand, Number}
use Rattle.chip_stage.specs.declared.stage.Command.{Command}
use Rattle.chip_stage.specs.declared.stage.Command.TheVariants.{ReadMemory, ReadStatus, ExtendedRead, Write}
use Rattle.chip_stage.specs.declared.stage.Incoming.{Incoming}
use Rattle.chip_stage.specs.declared.stage.Incoming.TheVariants.{Command as CommandByte, AddressLow, AddressHigh, Data as DataByte}
use Rattle.chip_stage.specs.declared.stage.Outgoing.{Outgoing}
use Rattle.chip_stage.specs.declared.stage.Outgoing.TheVariants.{MemoryData, MemoryCrc, StatusData, StatusCrc, RedirectionByte, RedirectionCrc}
use Rattle.chip_stage.specs.declared.stage.Outgoing.TheVariants.{PageData, PageCrc, WriteCrc, ReadBack}
use Rattle.chip_stage.specs.declared.stage.MemoryStage.TheVariants.{Silent, Receive, Send, Armed}
use Rattle.chip_entries.specs.declared.event.Stage.{Stage}
use Rattle.chip_entries.specs.declared.event.Stage.TheVariants.{Rom, Memory}
use Rattle.chip_entries.specs.declared.event.State.{State}
use Rattle.plug_fields.specs.Fields.{word, joined, padded, same, rest_at, is_copy}
use Rattle.plug_chip_packing.specs.Chip.{write_tag, command_tag, command_of, step_tag, rom_step_of, target_tag, target_address, target_of, incoming_bytes}
use Rattle.plug_chip_packing.specs.Chip.{incoming_of, outgoing_bytes, addressed_of, outgoing_of, rom_bytes, memory_bytes, chip_stage_bytes, memory_of, chip_stage_of, chip_at, chip_none}
use Rattle.plug_chip_packing.specs.Chip.{chip_bytes, chip_state_of, is_chip_state, ChipPacking}
use Rattle.plug_fields.proofs.Laws.{past, mode_back, halves, same_tag, same_not, same_own, same_one, same_two, mode_good, low_joined, high_joined, Laws, laws}
use Rattle.plug_chip_packing.specs.Code.Chip.{incoming_own, outgoing_own, chip_stage_own}

-- ---- what comes in and what is sent take five bytes at most

abbrev five : List ℕ → List ℕ → List ℕ
five b rest = get_or b 0 0 ∷ get_or b 1 0 ∷ get_or b 2 0 ∷ get_or b 3 0 ∷ get_or b 4 0 ∷ rest

pub incoming_five : (i : Incoming) → padded 7 (incoming_bytes i) ≡ five (padded 5 (incoming_bytes i)) (0 ∷ 0 ∷ [])
unfolding incoming_bytes
incoming_five CommandByte = refl
incoming_five (AddressLow command) = refl
incoming_five (AddressHigh command low) = refl
incoming_five (DataByte mode target) = refl

pub outgoing_five : (o : Outgoing) → padded 6 (outgoing_bytes o) ≡ five (padded 5 (outgoing_bytes o)) (0 ∷ [])
unfolding outgoing_bytes
outgoing_five (MemoryData a) = refl
outgoing_five MemoryCrc = refl
outgoing_five (StatusData a) = refl
outgoing_five (StatusCrc a) = refl
outgoing_five (RedirectionByte a) = refl
outgoing_five (RedirectionCrc a) = refl
outgoing_five (PageData a) = refl
outgoing_five (PageCrc a) = refl
outgoing_five (WriteCrc target byte) = refl
outgoing_five (ReadBack mode target) = refl

-- ---- enums by a number

pub command_good : (x : ℕ) → eqb x (command_tag (command_of x)) ≡ ltb x 7
unfolding command_tag command_of write_tag
command_good zero = refl
command_good (suc zero) = refl
command_good (suc (suc zero)) = refl
command_good (suc (suc (suc zero))) = refl
command_good (suc (suc (suc (suc zero)))) = refl
command_good (suc (suc (suc (suc (suc zero))))) = refl
command_good (suc (suc (suc (suc (suc (suc zero)))))) = refl
command_good (suc (suc (suc (suc (suc (suc (suc x))))))) =
    let h : 7 ≤ (suc (suc (suc (suc (suc (suc (suc x))))))) = omega arith in
    rw (past 0 (suc (suc (suc (suc (suc (suc (suc x))))))) (omega arith), past 1 (suc (suc (suc (suc (suc (suc (suc x))))))) (omega arith))
    (rw (past 2 (suc (suc (suc (suc (suc (suc (suc x))))))) (omega arith), past 3 (suc (suc (suc (suc (suc (suc (suc x))))))) (omega arith))
    (rw (past 4 (suc (suc (suc (suc (suc (suc (suc x))))))) (omega arith), past 5 (suc (suc (suc (suc (suc (suc (suc x))))))) (omega arith))
    (rw (past 6 (suc (suc (suc (suc (suc (suc (suc x))))))) (omega arith), le-ltb _ _ h))))

pub step_good : (x : ℕ) → eqb x (step_tag (rom_step_of x)) ≡ ltb x 5
unfolding step_tag rom_step_of
step_good zero = refl
step_good (suc zero) = refl
step_good (suc (suc zero)) = refl
step_good (suc (suc (suc zero))) = refl
step_good (suc (suc (suc (suc zero)))) = refl
step_good (suc (suc (suc (suc (suc x))))) =
    let h : 5 ≤ (suc (suc (suc (suc (suc x))))) = omega arith in
    rw (past 0 (suc (suc (suc (suc (suc x))))) (omega arith), past 1 (suc (suc (suc (suc (suc x))))) (omega arith))
    (rw (past 2 (suc (suc (suc (suc (suc x))))) (omega arith), past 3 (suc (suc (suc (suc (suc x))))) (omega arith))
    (rw (past 4 (suc (suc (suc (suc (suc x))))) (omega arith), le-ltb _ _ h)))

pub target_good : (x a : ℕ) → eqb x (target_tag (target_of x a)) ≡ ltb x 2
unfolding target_tag target_of
target_good zero a = refl
target_good (suc zero) a = refl
target_good (suc (suc x)) a =
    let h : 2 ≤ (suc (suc x)) = omega arith in
    rw (past 0 (suc (suc x)) (omega arith), past 1 (suc (suc x)) (omega arith), le-ltb _ _ h)

pub target_at_lem : (x a : ℕ) → target_address (target_of x a) ≡ a
unfolding target_address target_of
target_at_lem zero a = refl
target_at_lem (suc x) a = rw (past 0 (suc x) (omega arith))

-- a tag, an address and zeros are the bytes from place 6 on
tagged : (b : List ℕ) {tag : ℕ} → get_or b 6 0 ≡ tag → get_or b 7 0 < 256
    → same 6 (padded 6 (tag ∷ word (joined (get_or b 7 0) (get_or b 8 0)))) b ≡ same 9 (replicate 3 0) b
tagged b e h = rw (same_tag b 6 e, low_joined) (rw (same_own b 7, high_joined, same_own b 8))

command_back : (c : Command) → command_of (command_tag c) ≡ c
unfolding command_tag command_of write_tag
command_back ReadMemory = refl
command_back ReadStatus = refl
command_back ExtendedRead = refl
command_back (Write Ordinary DataSpace) = refl
command_back (Write Ordinary StatusSpace) = refl
command_back (Write Quick DataSpace) = refl
command_back (Write Quick StatusSpace) = refl

step_back : (s : RomStep) → rom_step_of (step_tag s) ≡ s
unfolding step_tag rom_step_of
step_back Read = refl
step_back Match = refl
step_back SearchBit = refl
step_back SearchComplement = refl
step_back SearchTake = refl

target_back : (t : Target) → target_of (target_tag t) (target_address t) ≡ t
unfolding target_of target_tag target_address
target_back (Data a) = refl
target_back (Status a) = refl

-- ---- what stands at a place, by its tag

abbrev at : List ℕ → ℕ → ℕ
at b i = get_or b i 0

pub incoming_0 : (b : List ℕ) → at b 5 ≡ 0 → incoming_own b ≡ same 6 (replicate 6 0) b
unfolding incoming_own incoming_of incoming_bytes
incoming_0 b e = rw (e, same_tag b 5 e)

pub incoming_1 : (b : List ℕ) → at b 5 ≡ 1 → incoming_own b ≡ (ltb (at b 6) 7 && same 7 (replicate 5 0) b)
unfolding incoming_own incoming_of incoming_bytes
incoming_1 b e = rw (e, same_tag b 5 e, same_one b 6, command_good)

pub incoming_2 : (b : List ℕ) → at b 5 ≡ 2 → incoming_own b ≡ (ltb (at b 6) 7 && same 8 (replicate 4 0) b)
unfolding incoming_own incoming_of incoming_bytes
incoming_2 b e = rw (e, same_tag b 5 e, same_one b 6, command_good, same_own b 7)

pub incoming_3 : (b : List ℕ) → at b 5 ≡ 3 → at b 8 < 256 → incoming_own b ≡ ((ltb (at b 6) 2 && ltb (at b 7) 2) && same 10 (replicate 2 0) b)
unfolding incoming_own incoming_of incoming_bytes
incoming_3 b e h8 = rw (e, same_tag b 5 e, same_two b 6, mode_good, target_good, target_at_lem, low_joined) (rw (same_own b 8, high_joined, same_own b 9))

pub incoming_none : (b : List ℕ) → at b 5 ≢ 0 → at b 5 ≢ 1 → at b 5 ≢ 2 → at b 5 ≢ 3 → incoming_own b ≡ false
unfolding incoming_own incoming_of incoming_bytes
incoming_none b d0 d1 d2 d3 = rw (ne_eqb _ _ d1, ne_eqb _ _ d2, ne_eqb _ _ d3, same_not b 5 d0)

pub ruleset incoming_rows = (incoming_0, incoming_1, incoming_2, incoming_3, incoming_none)

pub outgoing_0 : (b : List ℕ) → at b 6 ≡ 0 → at b 7 < 256 → outgoing_own b ≡ same 9 (replicate 3 0) b
unfolding outgoing_own outgoing_of outgoing_bytes addressed_of
outgoing_0 b e h7 = rw (e, tagged b e h7)

pub outgoing_1 : (b : List ℕ) → at b 6 ≡ 1 → outgoing_own b ≡ same 7 (replicate 5 0) b
unfolding outgoing_own outgoing_of outgoing_bytes addressed_of
outgoing_1 b e = rw (e, same_tag b 6 e)

pub outgoing_2 : (b : List ℕ) → at b 6 ≡ 2 → at b 7 < 256 → outgoing_own b ≡ same 9 (replicate 3 0) b
unfolding outgoing_own outgoing_of outgoing_bytes addressed_of
outgoing_2 b e h7 = rw (e, tagged b e h7)

pub outgoing_3 : (b : List ℕ) → at b 6 ≡ 3 → at b 7 < 256 → outgoing_own b ≡ same 9 (replicate 3 0) b
unfolding outgoing_own outgoing_of outgoing_bytes addressed_of
outgoing_3 b e h7 = rw (e, tagged b e h7)

pub outgoing_4 : (b : List ℕ) → at b 6 ≡ 4 → at b 7 < 256 → outgoing_own b ≡ same 9 (replicate 3 0) b
unfolding outgoing_own outgoing_of outgoing_bytes addressed_of
outgoing_4 b e h7 = rw (e, tagged b e h7)

pub outgoing_5 : (b : List ℕ) → at b 6 ≡ 5 → at b 7 < 256 → outgoing_own b ≡ same 9 (replicate 3 0) b
unfolding outgoing_own outgoing_of outgoing_bytes addressed_of
outgoing_5 b e h7 = rw (e, tagged b e h7)

pub outgoing_6 : (b : List ℕ) → at b 6 ≡ 6 → at b 7 < 256 → outgoing_own b ≡ same 9 (replicate 3 0) b
unfolding outgoing_own outgoing_of outgoing_bytes addressed_of
outgoing_6 b e h7 = rw (e, tagged b e h7)

pub outgoing_7 : (b : List ℕ) → at b 6 ≡ 7 → at b 7 < 256 → outgoing_own b ≡ same 9 (replicate 3 0) b
unfolding outgoing_own outgoing_of outgoing_bytes addressed_of
outgoing_7 b e h7 = rw (e, tagged b e h7)

pub outgoing_8 : (b : List ℕ) → at b 6 ≡ 8 → at b 9 < 256 → outgoing_own b ≡ (ltb (at b 8) 2 && same 11 (replicate 1 0) b)
unfolding outgoing_own outgoing_of outgoing_bytes addressed_of
outgoing_8 b e h9 =
    rw (e, same_tag b 6 e, same_own b 7, same_one b 8, target_good, target_at_lem, low_joined)
    (rw (same_own b 9, high_joined, same_own b 10))

pub outgoing_9 : (b : List ℕ) → at b 6 ≡ 9 → at b 9 < 256 → outgoing_own b ≡ ((ltb (at b 7) 2 && ltb (at b 8) 2) && same 11 (replicate 1 0) b)
unfolding outgoing_own outgoing_of outgoing_bytes addressed_of
outgoing_9 b e h9 =
    rw (e, same_tag b 6 e, same_two b 7, mode_good, target_good, target_at_lem, low_joined)
    (rw (same_own b 9, high_joined, same_own b 10))

pub outgoing_none : (b : List ℕ) → at b 6 ≢ 0 → at b 6 ≢ 1 → at b 6 ≢ 2 → at b 6 ≢ 3 → at b 6 ≢ 4 → at b 6 ≢ 5
    → at b 6 ≢ 6 → at b 6 ≢ 7 → at b 6 ≢ 8 → at b 6 ≢ 9
    → outgoing_own b ≡ false
unfolding outgoing_own outgoing_of outgoing_bytes addressed_of
outgoing_none b d0 d1 d2 d3 d4 d5 d6 d7 d8 d9 = rw (ne_eqb _ _ d8, ne_eqb _ _ d9, ne_eqb _ _ d0, ne_eqb _ _ d2) (rw (ne_eqb _ _ d3, ne_eqb _ _ d4, ne_eqb _ _ d5, ne_eqb _ _ d6, ne_eqb _ _ d7, same_not b 6 d1))

pub ruleset outgoing_rows =
    (outgoing_0, outgoing_1, outgoing_2, outgoing_3, outgoing_4, outgoing_5, outgoing_6, outgoing_7, outgoing_8, outgoing_9, outgoing_none)

pub stage_0 : (b : List ℕ) → at b 0 ≡ 0 → chip_stage_own b ≡ same 1 (replicate 11 0) b
unfolding chip_stage_own chip_stage_of memory_of chip_stage_bytes rom_bytes memory_bytes incoming_own outgoing_own
stage_0 b e = rw (e, same_tag b 0 e)

pub stage_1 : (b : List ℕ) → at b 0 ≡ 1 → chip_stage_own b ≡ same 3 (replicate 9 0) b
unfolding chip_stage_own chip_stage_of memory_of chip_stage_bytes rom_bytes memory_bytes incoming_own outgoing_own
stage_1 b e = rw (e, same_tag b 0 e, same_own b 1, same_own b 2)

pub stage_2 : (b : List ℕ) → at b 0 ≡ 2 → chip_stage_own b ≡ (ltb (at b 1) 5 && same 3 (replicate 9 0) b)
unfolding chip_stage_own chip_stage_of memory_of chip_stage_bytes rom_bytes memory_bytes incoming_own outgoing_own
stage_2 b e = rw (e, same_tag b 0 e, same_one b 1, step_good, same_own b 2)

pub stage_3 : (b : List ℕ) → at b 0 ≡ 3 → at b 3 < 256 → chip_stage_own b ≡ incoming_own b
unfolding chip_stage_own chip_stage_of memory_of chip_stage_bytes rom_bytes memory_bytes incoming_own outgoing_own
stage_3 b e h3 = rw (e, same_tag b 0 e, same_own b 1, same_own b 2, low_joined, same_own b 3, high_joined, same_own b 4)

pub stage_4 : (b : List ℕ) → at b 0 ≡ 4 → at b 2 < 256 → at b 4 < 256 → chip_stage_own b ≡ outgoing_own b
unfolding chip_stage_own chip_stage_of memory_of chip_stage_bytes rom_bytes memory_bytes incoming_own outgoing_own
stage_4 b e h2 h4 =
    rw (e, same_tag b 0 e, same_own b 1, low_joined (at b 2) _ h2, same_own b 2, high_joined (at b 2) _ h2)
    (rw (same_own b 3, low_joined (at b 4) _ h4, same_own b 4, high_joined (at b 4) _ h4, same_own b 5))

pub stage_5 : (b : List ℕ) → at b 0 ≡ 5 → at b 4 < 256 → chip_stage_own b ≡ ((ltb (at b 2) 2 && ltb (at b 3) 2) && same 6 (replicate 6 0) b)
unfolding chip_stage_own chip_stage_of memory_of chip_stage_bytes rom_bytes memory_bytes incoming_own outgoing_own
stage_5 b e h4 =
    rw (e, same_tag b 0 e, same_own b 1, same_two b 2, mode_good, target_good, target_at_lem, low_joined)
    (rw (same_own b 4, high_joined, same_own b 5))

pub stage_none : (b : List ℕ) → at b 0 ≢ 0 → at b 0 ≢ 1 → at b 0 ≢ 2 → at b 0 ≢ 3 → at b 0 ≢ 4 → at b 0 ≢ 5
    → chip_stage_own b ≡ false
unfolding chip_stage_own chip_stage_of memory_of chip_stage_bytes rom_bytes memory_bytes incoming_own outgoing_own
stage_none b d0 d1 d2 d3 d4 d5 = rw (ne_eqb _ _ d1, ne_eqb _ _ d2, ne_eqb _ _ d3, ne_eqb _ _ d4, ne_eqb _ _ d5, same_not b 0 d0)

pub ruleset stage_rows = (stage_0, stage_1, stage_2, stage_3, stage_4, stage_5, stage_none)

-- ---- stages

chip_stage_back : (s : Stage) (fields rest : List ℕ) → chip_stage_of ((padded 12 (chip_stage_bytes s) ++ fields) ++ rest) ≡ s
unfolding chip_stage_of memory_of chip_stage_bytes rom_bytes memory_bytes incoming_bytes incoming_of outgoing_bytes addressed_of outgoing_of
chip_stage_back (Rom (RomCommand count register)) fields rest = refl
chip_stage_back (Rom (Number step i)) fields rest = rw step_back
chip_stage_back (Memory Silent) fields rest = refl
chip_stage_back (Memory (Receive CommandByte count register crc)) fields rest = rw halves
chip_stage_back (Memory (Receive (AddressLow c) count register crc)) fields rest = rw (halves, command_back)
chip_stage_back (Memory (Receive (AddressHigh c low) count register crc)) fields rest = rw (halves, command_back)
chip_stage_back (Memory (Receive (DataByte mode t) count register crc)) fields rest = rw (halves (target_address t), halves crc, mode_back, target_back)
chip_stage_back (Memory (Send (MemoryData a) left bits crc)) fields rest = rw (halves a.0, halves bits, halves crc)
chip_stage_back (Memory (Send MemoryCrc left bits crc)) fields rest = rw (halves bits, halves crc)
chip_stage_back (Memory (Send (StatusData a) left bits crc)) fields rest = rw (halves a.0, halves bits, halves crc)
chip_stage_back (Memory (Send (StatusCrc a) left bits crc)) fields rest = rw (halves a.0, halves bits, halves crc)
chip_stage_back (Memory (Send (RedirectionByte a) left bits crc)) fields rest = rw (halves a.0, halves bits, halves crc)
chip_stage_back (Memory (Send (RedirectionCrc a) left bits crc)) fields rest = rw (halves a.0, halves bits, halves crc)
chip_stage_back (Memory (Send (PageData a) left bits crc)) fields rest = rw (halves a.0, halves bits, halves crc)
chip_stage_back (Memory (Send (PageCrc a) left bits crc)) fields rest = rw (halves a.0, halves bits, halves crc)
chip_stage_back (Memory (Send (WriteCrc t byte) left bits crc)) fields rest = rw (halves (target_address t), halves bits, halves crc, target_back)
chip_stage_back (Memory (Send (ReadBack mode t) left bits crc)) fields rest = rw (halves (target_address t), halves bits, halves crc, mode_back, target_back)
chip_stage_back (Memory (Armed mode t byte)) fields rest = rw (halves (target_address t), mode_back, target_back)

-- ---- states

chip : Laws 8 12 (λ s. chip_stage_bytes s.stage) (λ s. []) (λ s. s.number) (λ b. chip_at b (chip_stage_of b)) chip_none
unfolding chip_bytes
chip = laws _ _ _ _ _ _ _ (omega arith) (λ b. refl) refl back
  where
    back : (s : State) → rest_at 8 (chip_bytes s) ≡ s.number → chip_at (chip_bytes s) (chip_stage_of (chip_bytes s)) ≡ s
    back s rest = simp (chip_stage_back s.stage (padded 4 []) s.number, rest)

pub chip_held : (b : List ℕ) → length b ≡ 24 → chip_state_of b ≡ chip_at b (chip_stage_of b)
unfolding chip_state_of
chip_held b e = chip.held b e

pub chip_judged_lem : (b : List ℕ) → length b ≡ 24 → is_chip_state b ≡ (chip_stage_own b && same 12 (replicate 4 0) b)
unfolding is_chip_state chip_stage_own chip_state_of chip_bytes
chip_judged_lem b e = chip.judged b e

-- bytes of another length
pub chip_other : (b : List ℕ) → length b ≢ 24 → chip_state_of b ≡ chip_none
unfolding chip_state_of
chip_other b d = rw (ne_eqb _ _ d)

pub chip_refused : (b : List ℕ) → length b ≢ 24 → is_chip_state b ≡ false
unfolding is_chip_state is_copy
chip_refused b d = rw (ne_eqb _ _ d)

pub ruleset state_rows = (chip_held, chip_judged_lem, chip_other, chip_refused)

pub chip_packing : ChipPacking
unfolding chip_bytes chip_state_of is_chip_state
chip_packing = chip.inverse

pub chip_back : (s : State) → length s.number ≡ 8 → chip_state_of (chip_bytes s) ≡ s
chip_back s e = chip_packing.state_back s e

pub chip_kept : (s : State) → length s.number ≡ 8 → is_chip_state (chip_bytes s) ≡ true
chip_kept s e = chip_packing.state_kept s e
