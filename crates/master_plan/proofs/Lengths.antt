-- How many events the plan has.
use Prim.Native.Nat.{ℕ, zero, suc, ◌*◌, ◌/◌}
use mathlib.Core.Path.{◌≡◌, refl, ap}
use mathlib.Core.Bool.{Bool}
use mathlib.Core.List.{List, [], ◌∷◌, ◌++◌}
use native.Mathlib.Omega.{arith}
use lib.ListN.{length, length-append}
use Rattle.base_types.specs.Bits.{bits_of, bits_of_bytes}
use Rattle.base_types.specs.declared.address.Target.{Target}
use Rattle.base_types.specs.declared.write_mode.WriteMode.{WriteMode}
use Rattle.base_types.specs.declared.write_mode.WriteMode.TheVariants.{Ordinary, Quick}
use Rattle.master_plan.specs.Kind.{selecting, head_count, crc_count, byte_count, write_count, total_of, Counts}
use Rattle.master_plan.specs.Places.{head_of}
use Rattle.master_plan.specs.Plan.{send_steps, read_steps, crc_steps, back_steps, byte_steps, bytes_steps, head_steps, write_steps, plan_of}
use Rattle.master_plan.specs.declared.Wanted.{Wanted}
use Rattle.master_plan.specs.declared.kind.UpdateKind.{UpdateKind}

pub counts : Counts
counts =
    record {
      ordinary_writes = (refl, refl);
      ordinary_total = (refl, refl);
      ordinary_shown = refl;
      quick_writes = (refl, refl);
      quick_total = (refl, refl);
      quick_shown = refl;
    }

pub send_length : (bytes : List ℕ) → length (send_steps bytes) ≡ 8 * length bytes
unfolding send_steps bits_of bits_of_bytes
send_length [] = refl
send_length (b ∷ bs) = omega (arith, send_length bs)

pub read_length : (complete : Bool → Wanted) (n v : ℕ) → length (read_steps complete n v) ≡ n
unfolding read_steps
read_length complete zero v = refl
read_length complete (suc zero) v = refl
read_length complete (suc (suc n)) v = ap suc (read_length complete (suc n) (v / 2))

pub crc_length : (mode : WriteMode) (crc : ℕ) → length (crc_steps mode crc) ≡ crc_count mode
unfolding crc_steps
crc_length Ordinary crc = read_length _ 16 crc
crc_length Quick crc = refl

pub byte_length : (mode : WriteMode) (register old byte : ℕ) → length (byte_steps mode register old byte) ≡ byte_count mode
unfolding byte_steps back_steps
byte_length mode register old byte = simp (length-append, send_length, crc_length, read_length) (omega arith)

pub written_length : (mode : WriteMode) (bytes : List ℕ) (a register old : ℕ) → length (bytes_steps mode a register old bytes) ≡ byte_count mode * length bytes
unfolding bytes_steps
written_length mode [] a register old = omega arith
written_length mode (byte ∷ bytes) a register old = simp (length-append, byte_length, written_length mode bytes) (omega arith)

module _ (kind : UpdateKind) where
  pub head_length : (target : Target) → length (head_steps kind target) ≡ head_count kind
  unfolding head_steps
  head_length target =
      omega (
        arith,
        send_length (selecting kind.selection ++ head_of kind.mode target),
        length-append (selecting kind.selection) (head_of kind.mode target),
      )

  pub write_length : (target : Target) (old : ℕ) (bytes : List ℕ) → length (write_steps kind target old bytes) ≡ write_count kind (length bytes)
  unfolding write_steps
  write_length target old bytes = simp (length-append, head_length, written_length)

  pub plan_length : (l t used : ℕ) (new : List ℕ) → length new ≡ 32 → length (plan_of kind l t used new) ≡ total_of kind
  unfolding plan_of
  plan_length l t used new long = simp (length-append, write_length, long) (omega arith)
