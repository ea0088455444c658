-- The chip's test of a state is the list of its ranges; what is refused with 1 and 2; events leave a state in the list.
use Prim.Native.Nat.{ℕ, ◌%◌, ◌<◌, ◌≤◌}
use mathlib.Core.Path.{◌≡◌, refl}
use mathlib.Core.Bool.{Bool, true, false, cond}
use mathlib.Core.List.{List, []}
use mathlib.Core.Logic.{◌↔◌}
use native.Mathlib.Decide.{ℕ_discrete}
use native.Mathlib.Omega.{arith}
use lib.Dec.{ltb}
use lib.ListN.{length}
use borrow.Author.Tests.{lt-ltb, eq-eqb, ne_eqb, ltb-true, ltb-false}
use Rattle.base_types.specs.Outcome.{Outcome, refused, accepted, unless_refused}
use Rattle.base_types.specs.declared.address.Target.{Target}
use Rattle.base_types.specs.declared.address.Target.TheVariants.{Data, Status}
use Rattle.bus_events.specs.declared.Event.{Event}
use Rattle.chip_memory.specs.Layout.{image_size, is_image, data_size, status_size}
use Rattle.chip_rom.specs.declared.RomStage.TheVariants.{Command, Number}
use Rattle.chip_rom.specs.Rom.{rom_in_range}
use Rattle.chip_stage.specs.declared.stage.Incoming.TheVariants.{Command as CommandByte, AddressLow, AddressHigh, Data as DataByte}
use Rattle.chip_stage.specs.declared.stage.Outgoing.{Outgoing}
use Rattle.chip_stage.specs.declared.stage.Outgoing.TheVariants.{MemoryData, MemoryCrc, StatusData, StatusCrc, RedirectionByte, RedirectionCrc, PageData, PageCrc, WriteCrc, ReadBack}
use Rattle.chip_stage.specs.declared.stage.MemoryStage.TheVariants.{Silent, Receive, Send, Armed}
use Rattle.chip_stage.specs.Limits.{limit_of, is_address, target_in_range}
use Rattle.chip_function.specs.Ranges.{incoming_in_range, outgoing_in_range, receiving_in_range, send_in_range, memory_in_range}
use Rattle.chip_entries.specs.declared.event.Stage.{Stage}
use Rattle.chip_entries.specs.declared.event.Stage.TheVariants.{Rom, Memory}
use Rattle.chip_entries.specs.declared.event.State.{State}
use Rattle.chip_entries.specs.Event.{power_up, chip_in_range, reply_of, image_after, event_answer, event_state, event_image}
use Rattle.chip_entries.specs.Run.{Chip, next, draws}
use Rattle.chip_entries.proofs.Kept.{stage_kept, accepts}
use Rattle.chip_session_laws.specs.Ranges.{TargetListed, BitsLeft, SendListed, ChipListed, ChipRanges}

-- ---- the test is the list

below_means : (a b : ℕ) → (ltb a b ≡ true) ↔ (a < b)
below_means a b = (ltb-true a b, lt-ltb a b)

-- two tests in a row
both_mean : {P Q : Type 0} (t x : Bool) → (t ≡ true) ↔ P → (x ≡ true) ↔ Q → (cond t x false ≡ true) ↔ (P × Q)
both_mean true x p q = (λ h. (p.0 refl, q.0 h), λ h. q.1 h.1)
both_mean false x p q = (λ h. cc, λ h. p.1 h.0)

-- so many bits are left, and a further test
bits : {Q : Type 0} (left all : ℕ) (x : Bool) → (x ≡ true) ↔ Q → (cond (ltb left 1) false (cond (ltb all left) false x) ≡ true) ↔ (BitsLeft left all × Q)
bits {Q} left all x q = go (ltb left 1) (ltb all left) refl refl
  where
    go : (s t : Bool) → ltb left 1 ≡ s → ltb all left ≡ t → (cond s false (cond t false x) ≡ true) ↔ (BitsLeft left all × Q)
    go true t e f = (λ h. cc, λ h. absurd (let l = ltb-true left 1 e in omega (arith, h.0)))
    go false true e f = (λ h. cc, λ h. absurd (let l = ltb-true all left f in omega (arith, h.0)))
    go false false e f = (λ h. ((omega (arith, ltb-false left 1 e), omega (arith, ltb-false all left f)), q.0 h), λ h. q.1 h.1)

always : ◌↔◌ {0, 0} (true ≡ true) Unit
always = (λ h. tt, λ h. refl)

count_means : (k : ℕ) → (ltb k 8 ≡ true) ↔ (k ≤ 7)
count_means k = (λ h. omega (arith, ltb-true k 8 h), λ h. lt-ltb k 8 (omega arith))

alone : (k : ℕ) → (cond (ltb k 8) true false ≡ true) ↔ (k ≤ 7)
alone k = (λ h. ((both_mean (ltb k 8) true (count_means k) always).0 h).0, λ h. (both_mean (ltb k 8) true (count_means k) always).1 (h, tt))

module _ (n : ℕ) where
  target : (t : Target) → (target_in_range n t ≡ true) ↔ TargetListed (data_size n) (status_size n) t
  unfolding target_in_range is_address limit_of
  target (Data a) = below_means a.0 (data_size n)
  target (Status a) = below_means a.0 (status_size n)

  sending : (o : Outgoing) (left : ℕ) → (send_in_range n o left ≡ true) ↔ SendListed (data_size n) (status_size n) o left
  unfolding send_in_range outgoing_in_range is_address limit_of
  sending (MemoryData a) left = bits left 8 _ (below_means a.0 (data_size n))
  sending MemoryCrc left = (λ h. ((bits left 16 true always).0 h).0, λ h. (bits left 16 true always).1 (h, tt))
  sending (StatusData a) left = bits left 8 _ (below_means a.0 (status_size n))
  sending (StatusCrc a) left = bits left 16 _ (below_means a.0 (status_size n))
  sending (RedirectionByte a) left = bits left 8 _ (below_means a.0 (data_size n))
  sending (RedirectionCrc a) left = bits left 16 _ (below_means a.0 (data_size n))
  sending (PageData a) left = bits left 8 _ (below_means a.0 (data_size n))
  sending (PageCrc a) left = bits left 16 _ (below_means a.0 (data_size n))
  sending (WriteCrc t byte) left = bits left 16 _ (target t)
  sending (ReadBack mode t) left = bits left 8 _ (target t)

  listed : (s : Stage) → (chip_in_range n s ≡ true) ↔ ChipListed (data_size n) (status_size n) s
  unfolding chip_in_range rom_in_range memory_in_range receiving_in_range incoming_in_range
  listed (Rom (Command k register)) = count_means k
  listed (Rom (Number step i)) = (λ h. omega (arith, ltb-true i 64 h), λ h. lt-ltb i 64 (omega arith))
  listed (Memory Silent) = (λ h. tt, λ h. refl)
  listed (Memory (Receive CommandByte k register crc)) = alone k
  listed (Memory (Receive (AddressLow c) k register crc)) = alone k
  listed (Memory (Receive (AddressHigh c low) k register crc)) = alone k
  listed (Memory (Receive (DataByte mode t) k register crc)) = both_mean (ltb k 8) (target_in_range n t) (count_means k) (target t)
  listed (Memory (Send o left v crc)) = sending o left
  listed (Memory (Armed mode t byte)) = target t

  -- ---- what is refused

  left : (c : Chip) (e : Event) (k : ℕ) (values : List ℕ) → draws n c e ≡ refused k values → next n c e ≡ c
  unfolding event_state event_image
  left c e k values told = simp told

  other_length : (c : Chip) (e : Event) → (length c.image ≡ image_size n → ⊥) → (draws n c e ≡ refused 1 []) × (next n c e ≡ c)
  unfolding event_answer is_image
  other_length c e ne = let told : draws n c e ≡ refused 1 [] = simp (ne_eqb (length c.image) (image_size n) ne) in (told, left c e 1 [] told)

  not_true : (t : Bool) → (t ≡ true → ⊥) → t ≡ false
  not_true true h = absurd (h refl)
  not_true false h = refl

  outside : (c : Chip) (e : Event) → length c.image ≡ image_size n → (ChipListed (data_size n) (status_size n) c.state.stage → ⊥) → (draws n c e ≡ refused 2 []) × (next n c e ≡ c)
  unfolding event_answer is_image
  outside c e sized un =
      let s = c.state.stage in
      let told : draws n c e ≡ refused 2 [] = simp (eq-eqb (length c.image) (image_size n) sized, not_true (chip_in_range n s) (λ h. un ((listed s).0 h))) in
      (told, left c e 2 [] told)

  within : (c : Chip) (e : Event) → length c.image ≡ image_size n → ChipListed (data_size n) (status_size n) c.state.stage → (reply : Bool) × (draws n c e ≡ accepted reply)
  unfolding is_image
  within c e sized l =
      (reply_of c.state.stage e c.state.number, accepts n c (eq-eqb (length c.image) (image_size n) sized) ((listed c.state.stage).1 l) e)

  never_2 : (c : Chip) (e : Event) (values : List ℕ) → ChipListed (data_size n) (status_size n) c.state.stage → draws n c e ≡ refused 2 values → ⊥
  never_2 c e values l told = go (ℕ_discrete (length c.image) (image_size n))
    where
      go : Dec (length c.image ≡ image_size n) → ⊥
      go (yes sized) = let w = (within c e sized l).1 in let z : ◌≡◌ {A = ℕ} 0 1 = cc in omega arith
      go (no ne) = let w = (other_length c e ne).0 in let z : ◌≡◌ {A = ℕ} 1 2 = cc in omega arith

  either : (t : Outcome Bool) (new old : State) → chip_in_range n old.stage ≡ true → chip_in_range n new.stage ≡ true → chip_in_range n (unless_refused t new old).stage ≡ true
  either (accepted r) new old o w = w
  either (refused k vs) new old o w = o

  stays : n % 8 ≡ 0 → (c : Chip) (e : Event) → ChipListed (data_size n) (status_size n) c.state.stage → ChipListed (data_size n) (status_size n) (next n c e).state.stage
  unfolding event_state
  stays whole c e l =
      let ranged = (listed c.state.stage).1 l in
      (listed (next n c e).state.stage).0
      (either (draws n c e) _ c.state ranged (stage_kept n whole c.state.stage e c.state.number (image_after n c.state.stage e c.image) ranged))

pub chip_ranges : (n : ℕ) → n % 8 ≡ 0 → ChipRanges n (image_size n) (data_size n) (status_size n)
unfolding power_up
chip_ranges n whole =
    record {
      listed = listed n;
      other_length = other_length n;
      outside = outside n;
      within = within n;
      never_2 = never_2 n;
      power_up_law = λ number. tt;
      stays = stays n whole;
    }
