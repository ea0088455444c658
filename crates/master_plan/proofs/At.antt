-- The steps by position are the elements of the plan's list.
use Prim.Native.Nat.{ℕ, zero, suc, ◌+◌, ◌-◌, ◌*◌, ◌/◌, ◌%◌, ◌^◌, ◌<◌, ◌≤◌}
use mathlib.Core.Path.{◌≡◌, refl, sym, ◌∙◌, ap}
use mathlib.Core.Bool.{Bool, true, false, cond}
use mathlib.Core.List.{List, [], ◌∷◌, ◌++◌}
use native.Mathlib.Omega.{arith}
use native.Mathlib.Decide.{dec_lt}
use native.Mathlib.Nat.{div-div-eq-div-mul, pow-succ', div-one}
use lib.Bits.{bit_and}
use lib.Dec.{ltb, eqb}
use lib.ListN.{length, get_or, length-append, get_or-append}
use lib.Seq.{get_or-append-add}
use borrow.Author.Tests.{lt-ltb, le-ltb}
use Rattle.base_types.specs.Bits.{odd, bit_at, bits_of, bits_of_bytes}
use Rattle.base_types.specs.declared.address.Target.{Target}
use Rattle.base_types.specs.declared.address.Target.TheVariants.{Data, Status}
use Rattle.base_types.specs.declared.write_mode.WriteMode.{WriteMode}
use Rattle.base_types.specs.declared.write_mode.WriteMode.TheVariants.{Ordinary, Quick}
use Rattle.base_crc.specs.Crc.{crc16_of}
use Rattle.bus_events.specs.Events.{slot, read_slot}
use Rattle.bus_events.specs.Slots.{slots}
use Rattle.master_plan.specs.Kind.{selecting, head_count, crc_count, byte_count, write_count}
use Rattle.master_plan.specs.Places.{bitmap_address, clearing, page_address, redirection_address, naming, address_of, head_of}
use Rattle.master_plan.specs.Plan.{step, reset_step, pulse_step, freely, send_steps, read_steps, crc_steps, back_steps, byte_steps, bytes_steps, head_steps, write_steps, plan_of}
use Rattle.master_plan.specs.Code.At.{send_at, read_at, byte_at, head_byte, head_at, register_at, write_at, part_at}
use Rattle.master_plan.specs.declared.Part.{Part}
use Rattle.master_plan.specs.declared.Part.TheVariants.{Bitmap, NewPage, Link, Closing}
use Rattle.master_plan.specs.declared.Step.{Step}
use Rattle.master_plan.specs.declared.Wanted.{Wanted}
use Rattle.master_plan.specs.declared.Wanted.TheVariants.{Anything, Bit, LastCrcBit, LastBackBit}
use Rattle.master_plan.specs.declared.kind.UpdateKind.{UpdateKind}
use Rattle.master_plan.proofs.Lengths.{send_length, crc_length, byte_length, head_length, write_length}

abbrev at : List Step → ℕ → Step
at ss i = get_or ss i reset_step

-- in the first list, or in the second
at_left : (xs ys : List Step) (n i : ℕ) → length xs ≡ n → i < n → at (xs ++ ys) i ≡ at xs i
at_left xs ys n i e lt = get_or-append xs ys reset_step i (omega arith)

at_right : (xs ys : List Step) (n i : ℕ) → length xs ≡ n → n ≤ i → at (xs ++ ys) i ≡ at ys (i - n)
at_right xs ys n i e le =
    let z : i ≡ length xs + (i - n) = omega arith in
    ap (at (xs ++ ys)) z ∙ get_or-append-add xs ys (i - n) reset_step

-- the same as a test
in_either : (xs ys : List Step) (n i : ℕ) (a b : Step) → length xs ≡ n → (i < n → a ≡ at xs i) → (n ≤ i → b ≡ at ys (i - n)) → cond (ltb i n) a b ≡ at (xs ++ ys) i
in_either xs ys n i a b e f g = go (dec_lt i n)
  where
    go : Dec (i < n) → cond (ltb i n) a b ≡ at (xs ++ ys) i
    go (yes y) = simp (lt-ltb i n y) (f y ∙ sym (at_left xs ys n i e y))
    go (no z) = let le : n ≤ i = omega arith in simp (le-ltb i n le) (g le ∙ sym (at_right xs ys n i e le))

-- ---- bits that are sent, and bits that are read

bit_half : (v i : ℕ) → bit_at (v / 2) i ≡ bit_at v (suc i)
bit_half v i = ap (λ (x : ℕ). eqb (x % 2) 1) (div-div-eq-div-mul v 2 (2 ^ i) ∙ ap (λ (x : ℕ). v / x) (sym (pow-succ' 2 i)))

bits_at_lem : (k v i : ℕ) → i < k → step (slot (bit_at v i)) Anything ≡ at (freely (slots (bits_of k v))) i
unfolding bits_of
bits_at_lem zero v i lt = absurd (omega arith)
bits_at_lem (suc k) v zero lt = ap (λ (x : ℕ). step (slot (odd x)) Anything) (div-one v)
bits_at_lem (suc k) v (suc i) lt = ap (λ (b : Bool). step (slot b) Anything) (sym (bit_half v i)) ∙ bits_at_lem k (v / 2) i (omega arith)

freely_append : (xs ys : List Bool) → freely (slots (xs ++ ys)) ≡ freely (slots xs) ++ freely (slots ys)
freely_append [] ys = refl
freely_append (x ∷ xs) ys = ap (λ (l : List Step). step (slot x) Anything ∷ l) (freely_append xs ys)

free_length : (k v : ℕ) → length (freely (slots (bits_of k v))) ≡ k
unfolding bits_of
free_length zero v = refl
free_length (suc k) v = ap suc (free_length k (v / 2))

-- bit i modulo 8 of byte i divided by 8
send_at_lem : (bytes : List ℕ) (i : ℕ) → i < 8 * length bytes → send_at (get_or bytes (i / 8) 0) i ≡ at (send_steps bytes) i
unfolding send_at send_steps bits_of_bytes
send_at_lem [] i lt = absurd (omega arith)
send_at_lem (b ∷ bs) i lt =
    go (λ le. send_at_lem bs (i - 8) (omega arith)) (dec_lt i 8) ∙ ap (λ (l : List Step). at l i) (sym (freely_append (bits_of 8 b) (bits_of_bytes bs)))
  where
    go : (8 ≤ i → send_at (get_or bs ((i - 8) / 8) 0) (i - 8) ≡ at (freely (slots (bits_of_bytes bs))) (i - 8)) → Dec (i < 8)
        → send_at (get_or (b ∷ bs) (i / 8) 0) i ≡ at (freely (slots (bits_of 8 b)) ++ freely (slots (bits_of_bytes bs))) i
    go ih (yes y) =
        let q : i / 8 ≡ 0 = omega arith in
        let r : i % 8 ≡ i = omega arith in
        rw (q, r) (bits_at_lem 8 b i y) ∙ sym (at_left (freely (slots (bits_of 8 b))) _ 8 i (free_length 8 b) y)
    go ih (no z) =
        let q : i / 8 ≡ suc ((i - 8) / 8) = omega arith in
        let r : i % 8 ≡ (i - 8) % 8 = omega arith in
        rw (q, r) (ih (omega arith)) ∙ sym (at_right (freely (slots (bits_of 8 b))) _ 8 i (free_length 8 b) (omega arith))

read_early : (complete : Bool → Wanted) (n v i : ℕ) → i < n → at (read_steps complete (suc n) v) i ≡ step read_slot (Bit (bit_at v i))
unfolding read_steps
read_early complete zero v i lt = absurd (omega arith)
read_early complete (suc n) v zero lt = ap (λ (x : ℕ). step read_slot (Bit (odd x))) (sym (div-one v))
read_early complete (suc n) v (suc i) lt = read_early complete n (v / 2) i (omega arith) ∙ ap (λ (b : Bool). step read_slot (Bit b)) (bit_half v i)

read_last : (complete : Bool → Wanted) (n v : ℕ) → at (read_steps complete (suc n) v) n ≡ step read_slot (complete (bit_at v n))
unfolding read_steps
read_last complete zero v = ap (λ (x : ℕ). step read_slot (complete (odd x))) (sym (div-one v))
read_last complete (suc n) v = read_last complete n (v / 2) ∙ ap (λ (b : Bool). step read_slot (complete b)) (bit_half v n)

-- a number of m + 1 bits, as the code finds its bit i
read_at_lem : (complete : Bool → Wanted) (m v i : ℕ) → m < 16 → i < suc m → read_at v i m (complete (bit_at v m)) ≡ at (read_steps complete (suc m) v) i
unfolding read_at
read_at_lem complete m v i few lt = go (dec_lt i m)
  where
    go : Dec (i < m)
        → cond (ltb i m) (step read_slot (Bit (bit_at v (i % 16)))) (step read_slot (complete (bit_at v m))) ≡ at (read_steps complete (suc m) v) i
    go (yes y) = let same : i % 16 ≡ i = omega arith in simp (lt-ltb i m y, same) (sym (read_early complete m v i y))
    go (no z) =
        let e : i ≡ m = omega arith in
        simp (le-ltb i m (omega arith)) (rw e (sym (read_last complete m v)))

-- ---- a byte, and bytes

crc_at_lem : (mode : WriteMode) (crc i : ℕ) → i < crc_count mode → read_at crc i 15 (LastCrcBit (bit_at crc 15)) ≡ at (crc_steps mode crc) i
unfolding crc_steps
crc_at_lem Ordinary crc i lt = read_at_lem LastCrcBit 15 crc i (omega arith) lt
crc_at_lem Quick crc i lt = absurd (omega arith)

one_at : (s : Step) (i : ℕ) → i < 1 → s ≡ at (s ∷ []) i
one_at s zero lt = refl
one_at s (suc i) lt = absurd (omega arith)

byte_at_lem : (mode : WriteMode) (register old byte i : ℕ) → i < byte_count mode → byte_at mode register old byte i ≡ at (byte_steps mode register old byte) i
unfolding byte_at byte_steps back_steps
byte_at_lem mode register old byte i lt =
    in_either (send_steps (byte ∷ [])) _ 8 i _ _ (send_length (byte ∷ [])) (λ y. let q : i / 8 ≡ 0 = omega arith in rw q at (send_at_lem (byte ∷ []) i y))
    (λ le. in_either (crc_steps mode _) _ (crc_count mode) (i - 8) _ _ (crc_length mode _) (crc_at_lem mode _ (i - 8))
    (λ later. in_either (pulse_step ∷ []) (read_steps LastBackBit 8 (bit_and old byte)) 1 (i - 8 - crc_count mode) _ _ refl (one_at pulse_step _)
    (λ last. read_at_lem LastBackBit 7 (bit_and old byte) (i - 8 - crc_count mode - 1) (omega arith) (omega arith))))

register_next : (a crc j : ℕ) → register_at a crc (suc j) ≡ register_at (a + 1) (a + 1) j
unfolding register_at
register_next a crc zero = refl
register_next a crc (suc j) = simp (le-ltb (suc (suc j)) 1 (omega arith), le-ltb (suc j) 1 (omega arith)) (omega arith)

-- the number of an event's byte and its place there: in the first byte, or as without the first byte
in_first : (mode : WriteMode) (i : ℕ) → i < byte_count mode → (i / byte_count mode ≡ 0) × (i % byte_count mode ≡ i)
in_first Ordinary i lt = omega arith
in_first Quick i lt = omega arith

past_first : (mode : WriteMode) (i : ℕ) → byte_count mode ≤ i
    → (i / byte_count mode ≡ suc ((i - byte_count mode) / byte_count mode)) × (i % byte_count mode ≡ (i - byte_count mode) % byte_count mode)
past_first Ordinary i le = omega arith
past_first Quick i le = omega arith

-- the step at position i of a run of bytes
abbrev bytes_at : WriteMode → ℕ → ℕ → ℕ → List ℕ → ℕ → Step
bytes_at mode a crc old ds i = byte_at mode (register_at a crc (i / byte_count mode)) old (get_or ds (i / byte_count mode) 0) (i % byte_count mode)

bytes_at_lem : (mode : WriteMode) (ds : List ℕ) (a crc old i : ℕ) → i < byte_count mode * length ds
    → bytes_at mode a crc old ds i ≡ at (bytes_steps mode a crc old ds) i
unfolding bytes_steps
bytes_at_lem mode [] a crc old i lt = absurd (omega arith)
bytes_at_lem mode (d ∷ ds) a crc old i lt =
    go (λ le. bytes_at_lem mode ds (a + 1) (a + 1) old (i - byte_count mode) (omega arith)) (dec_lt i (byte_count mode))
  where
    go : (byte_count mode ≤ i → bytes_at mode (a + 1) (a + 1) old ds (i - byte_count mode) ≡ at (bytes_steps mode (a + 1) (a + 1) old ds) (i - byte_count mode))
        → Dec (i < byte_count mode) → bytes_at mode a crc old (d ∷ ds) i ≡ at (byte_steps mode crc old d ++ bytes_steps mode (a + 1) (a + 1) old ds) i
    go ih (yes y) =
        rw ((in_first mode i y).0, (in_first mode i y).1) (unfold register_at in byte_at_lem mode crc old d i y)
        ∙ sym (at_left (byte_steps mode crc old d) _ (byte_count mode) i (byte_length mode crc old d) y)
    go ih (no z) =
        let le : byte_count mode ≤ i = omega arith in
        rw ((past_first mode i le).0, (past_first mode i le).1, register_next) (ih le)
        ∙ sym (at_right (byte_steps mode crc old d) _ (byte_count mode) i (byte_length mode crc old d) le)

-- ---- a write, and the plan

module _ (kind : UpdateKind) where
  head_at_lem : (target : Target) (i : ℕ) → i < head_count kind → head_at kind target i ≡ at (head_steps kind target) i
  unfolding head_at head_byte head_steps
  head_at_lem target i lt =
      in_either (reset_step ∷ []) (send_steps (selecting kind.selection ++ head_of kind.mode target)) 1 i _ _ refl (one_at reset_step i)
      (λ le. send_at_lem (selecting kind.selection ++ head_of kind.mode target) (i - 1)
      (omega (arith, length-append (selecting kind.selection) (head_of kind.mode target))))

  write_at_lem : (target : Target) (old : ℕ) (ds : List ℕ) (i : ℕ) → i < write_count kind (length ds)
      → write_at kind target old ds i ≡ at (write_steps kind target old ds) i
  unfolding write_at write_steps
  write_at_lem target old ds i lt =
      in_either (head_steps kind target) _ (head_count kind) i _ _ (head_length kind target) (head_at_lem target i)
      (λ le. bytes_at_lem kind.mode ds (address_of target) (crc16_of (head_of kind.mode target)) old (i - head_count kind) (omega arith))

  closing_at : (i : ℕ) → reset_step ≡ at (reset_step ∷ []) i
  closing_at zero = refl
  closing_at (suc i) = refl

  in_parts : (l t used : ℕ) (new : List ℕ) (k : ℕ) → length new ≡ 32
      → cond (ltb k (write_count kind 1)) (write_at kind (Status (bitmap_address t)) used (clearing t ∷ []) k)
      (cond (ltb (k - write_count kind 1) (write_count kind 32))
      (write_at kind (Data (page_address t)) 255 new (k - write_count kind 1))
      (cond (ltb (k - write_count kind 1 - write_count kind 32) (write_count kind 1))
      (write_at kind (Status (redirection_address l)) 255 ((naming t).0 ∷ []) (k - write_count kind 1 - write_count kind 32)) reset_step))
      ≡ get_or (plan_of kind l t used new) k reset_step
  unfolding plan_of
  in_parts l t used new k long =
      in_either (write_steps kind (Status (bitmap_address t)) used (clearing t ∷ [])) _ (write_count kind 1) k _ _
      (write_length kind (Status (bitmap_address t)) used (clearing t ∷ [])) (write_at_lem (Status (bitmap_address t)) used (clearing t ∷ []) k)
      (λ _. in_either (write_steps kind (Data (page_address t)) 255 new) _ (write_count kind 32) (k - write_count kind 1) _ _
      (write_length kind (Data (page_address t)) 255 new ∙ rw long)
      (λ lt. write_at_lem (Data (page_address t)) 255 new (k - write_count kind 1) (rw long lt))
      (λ _. in_either (write_steps kind (Status (redirection_address l)) 255 ((naming t).0 ∷ [])) _ (write_count kind 1) (k - write_count kind 1 - write_count kind 32) _ _
      (write_length kind (Status (redirection_address l)) 255 ((naming t).0 ∷ []))
      (write_at_lem (Status (redirection_address l)) 255 ((naming t).0 ∷ []) (k - write_count kind 1 - write_count kind 32))
      (λ _. closing_at (k - write_count kind 1 - write_count kind 32 - write_count kind 1))))

  -- the step of a part
  abbrev pub step_in : Part → ℕ → ℕ → ℕ → List ℕ → Step
  step_in (Bitmap i) l t used new = write_at kind (Status (bitmap_address t)) used (clearing t ∷ []) i
  step_in (NewPage i) l t used new = write_at kind (Data (page_address t)) 255 new i
  step_in (Link i) l t used new = write_at kind (Status (redirection_address l)) 255 ((naming t).0 ∷ []) i
  step_in Closing l t used new = reset_step

  pub plan_at : (l t used : ℕ) (new : List ℕ) (k : ℕ) → length new ≡ 32
      → get_or (plan_of kind l t used new) k reset_step ≡ step_in (part_at kind k) l t used new
  unfolding part_at
  plan_at l t used new k long =
      sym (go (ltb k (write_count kind 1)) (ltb (k - write_count kind 1) (write_count kind 32))
      (ltb (k - write_count kind 1 - write_count kind 32) (write_count kind 1))
      ∙ in_parts l t used new k long)
    where
      go : (a b c : Bool) → step_in (cond a (Bitmap k) (cond b (NewPage (k - write_count kind 1)) (cond c (Link (k - write_count kind 1 - write_count kind 32)) Closing))) l t used new
          ≡ cond a (write_at kind (Status (bitmap_address t)) used (clearing t ∷ []) k)
          (cond b (write_at kind (Data (page_address t)) 255 new (k - write_count kind 1))
          (cond c (write_at kind (Status (redirection_address l)) 255 ((naming t).0 ∷ []) (k - write_count kind 1 - write_count kind 32)) reset_step))
      go true b c = refl
      go false true c = refl
      go false false true = refl
      go false false false = refl
