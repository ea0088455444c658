-- The plan of a quick update judges no CRC.
use Prim.Native.Nat.{ℕ, zero, suc, ◌/◌}
use mathlib.Core.Path.{◌≡◌, refl}
use mathlib.Core.Bool.{Bool, true, false, cond}
use mathlib.Core.List.{List, [], ◌∷◌, ◌++◌}
use lib.ListN.{get_or}
use Rattle.base_types.specs.declared.address.Target.{Target}
use Rattle.base_types.specs.declared.write_mode.WriteMode.TheVariants.{Quick}
use Rattle.bus_events.specs.declared.Event.{Event}
use Rattle.bus_events.specs.Slots.{sending}
use Rattle.master_plan.specs.Plan.{reset_step, freely, send_steps, read_steps, crc_steps, back_steps, byte_steps, bytes_steps, head_steps, write_steps, plan_of}
use Rattle.master_plan.specs.declared.Step.{Step}
use Rattle.master_plan.specs.declared.Wanted.{Wanted}
use Rattle.master_plan.specs.declared.Wanted.TheVariants.{Anything, Presence, Bit, LastCrcBit, LastBackBit}
use Rattle.master_plan.specs.declared.kind.UpdateKind.{UpdateKind}

abbrev pub judges_crc : Wanted → Bool
judges_crc Anything = false
judges_crc Presence = false
judges_crc (Bit b) = false
judges_crc (LastCrcBit b) = true
judges_crc (LastBackBit b) = false

-- a step of a list judges a CRC
abbrev any_crc : List Step → Bool
any_crc [] = false
any_crc (s ∷ ss) = cond (judges_crc s.wanted) true (any_crc ss)

any_append : (xs ys : List Step) → any_crc (xs ++ ys) ≡ cond (any_crc xs) true (any_crc ys)
any_append [] ys = refl
any_append (x ∷ xs) ys = go (judges_crc x.wanted) (any_append xs ys)
  where
    go : (b : Bool) → any_crc (xs ++ ys) ≡ cond (any_crc xs) true (any_crc ys) → cond b true (any_crc (xs ++ ys)) ≡ cond (cond b true (any_crc xs)) true (any_crc ys)
    go true ih = refl
    go false ih = ih

either_false : (a b : Bool) → cond a true b ≡ false → (a ≡ false) × (b ≡ false)
either_false true b h = (h, cc)
either_false false b h = (refl, h)

-- past its end a list gives reset_step
none_at : (ss : List Step) (k : ℕ) → any_crc ss ≡ false → judges_crc (get_or ss k reset_step).wanted ≡ false
none_at [] k h = refl
none_at (s ∷ ss) zero h = (either_false (judges_crc s.wanted) (any_crc ss) h).0
none_at (s ∷ ss) (suc k) h = none_at ss k (either_false (judges_crc s.wanted) (any_crc ss) h).1

none_free : (es : List Event) → any_crc (freely es) ≡ false
none_free [] = refl
none_free (e ∷ es) = none_free es

none_sent : (bytes : List ℕ) → any_crc (send_steps bytes) ≡ false
unfolding send_steps
none_sent bytes = none_free (sending bytes)

none_back : (n v : ℕ) → any_crc (read_steps LastBackBit n v) ≡ false
unfolding read_steps
none_back zero v = refl
none_back (suc zero) v = refl
none_back (suc (suc n)) v = none_back (suc n) (v / 2)

none_bytes : (bytes : List ℕ) (a register old : ℕ) → any_crc (bytes_steps Quick a register old bytes) ≡ false
unfolding bytes_steps byte_steps crc_steps back_steps
none_bytes [] a register old = refl
none_bytes (byte ∷ bytes) a register old = simp (any_append, none_sent, none_back, none_bytes bytes)

module _ (kind : UpdateKind) (quick : kind.mode ≡ Quick) where
  none_write : (target : Target) (old : ℕ) (bytes : List ℕ) → any_crc (write_steps kind target old bytes) ≡ false
  unfolding write_steps head_steps
  none_write target old bytes = simp (any_append, none_sent) (rw quick (none_bytes bytes _ _ old))

  pub no_crc : (l t used : ℕ) (new : List ℕ) (k : ℕ) → judges_crc (get_or (plan_of kind l t used new) k reset_step).wanted ≡ false
  unfolding plan_of
  no_crc l t used new k = none_at (plan_of kind l t used new) k (simp (any_append, none_write))
