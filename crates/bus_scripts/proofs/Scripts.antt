-- A script played with replies, and on a bus: what holds of every script, whatever master it is that of.
use Prim.Native.Nat.{ℕ, zero, suc}
use mathlib.Core.Bool.{Bool}
use mathlib.Core.List.{List, [], ◌∷◌}
use mathlib.Core.Path.{◌≡◌, refl, ap, ◌∙◌, subst}
use lib.ListN.{length}
use Rattle.base_types.specs.Outcome.{Outcome, refused, accepted}
use Rattle.bus_events.specs.declared.Event.{Event}
use Rattle.bus_scripts.specs.Joint.{answers, reached, drew, GoodAfter, Good, drawn_replies}
use Rattle.bus_scripts.specs.Next.{Next, send, tells, out_of}
use Rattle.bus_scripts.specs.Script.{Script, stops, gives, sends, outcome_at, follow, play_from, play, left_in, left_by, telling, leaving, play_on, played_telling, ScriptLaws}

module _ {B : Type 0} (react : B → Event → B) (line : B → Event → Bool) where
  abbrev GoodFor : (Bool → Script) → B → Bool → List Bool → Type 0
  GoodFor on b drawn rs = GoodAfter react line out_of b drawn (play_from on rs) rs

  abbrev left_on : Script → B → ℕ → List ℕ → List ℕ
  left_on script b k lent = leaving (play_on react line script b).events (play_on react line script b).bytes k lent

  -- calls with these replies tell what the script tells on the bus, and leave in a buffer what it leaves there
  abbrev Does : (Bool → Script) → List Bool → Script → B → Type 0
  Does on rs script b = (play_from on rs ≡ played_telling react line script b (length rs)) × ((lent : List ℕ) → left_by on rs lent ≡ left_on script b (length rs) lent)

  kept_buffer : (k : ℕ) (lent : List ℕ) → leaving [] [] k lent ≡ lent
  unfolding leaving
  kept_buffer zero lent = refl
  kept_buffer (suc k) lent = refl

  -- ---- with good replies they do

  module _ (rs : List Bool) (more : (on : Bool → Script) (b : B) (drawn : Bool) → GoodFor on b drawn rs → Does on rs (on drawn) b) where
    good_at : (x : Script) (b : B) (drawn : Bool)
        → GoodFor (follow x) (reached react line (out_of (outcome_at x)) b) (drew react line (out_of (outcome_at x)) b drawn) rs → Does (λ first. x) (drawn ∷ rs) x b
    unfolding telling play_on leaving
    good_at (stops number values) b drawn g =
        let m = more (follow (stops number values)) b drawn g in
        (ap (λ (l : List (Outcome Next)). refused number values ∷ l) m.0, λ lent. m.1 lent ∙ kept_buffer (length rs) lent)
    good_at (gives values bytes) b drawn g =
        let m = more (follow (gives values bytes)) b drawn g in
        (ap (λ (l : List (Outcome Next)). accepted (tells values) ∷ l) m.0, λ lent. m.1 (left_in bytes lent) ∙ kept_buffer (length rs) (left_in bytes lent))
    good_at (sends e on) b drawn g = let m = more on (react b e) (line b e) g in (ap (λ (l : List (Outcome Next)). accepted (send e) ∷ l) m.0, m.1)

  good_from : (rs : List Bool) (on : Bool → Script) (b : B) (drawn : Bool) → GoodFor on b drawn rs → Does on rs (on drawn) b
  unfolding telling leaving
  good_from [] on b drawn g = (refl, λ lent. refl)
  good_from (r ∷ rs) on b drawn g = subst (λ (q : Bool). Does on (r ∷ rs) (on q) b) g.0 (good_at rs (good_from rs) (on r) b drawn g.1)

  pub good_does : (script : Script) (b : B) (replies : List Bool) → Good react line out_of b (play script replies) replies → Does (λ first. script) replies script b
  unfolding telling leaving
  good_does script b [] g = (refl, λ lent. refl)
  good_does script b (r ∷ rs) g = good_from (r ∷ rs) (λ first. script) b r g

  -- ---- the drawn replies are good

  module _ {S : Type 0} (call : S → Bool → S) (told : S → Bool → Outcome Next) where
    abbrev drawn_of : ℕ → S → B → Bool → List Bool
    drawn_of k s b r = drawn_replies react line out_of call told k s b r

    drawn_length : (k : ℕ) (s : S) (b : B) (r : Bool) → length (drawn_of k s b r) ≡ k
    unfolding drawn_replies
    drawn_length zero s b r = refl
    drawn_length (suc k) s b r = ap suc (drawn_length k (call s r) (reached react line (out_of (told s r)) b) (drew react line (out_of (told s r)) b r))

    drawn_after : (k : ℕ) (s : S) (b : B) (r : Bool) → GoodAfter react line out_of b r (answers call told s (drawn_of k s b r)) (drawn_of k s b r)
    unfolding drawn_replies
    drawn_after zero s b r = tt
    drawn_after (suc k) s b r = (refl, drawn_after k (call s r) (reached react line (out_of (told s r)) b) (drew react line (out_of (told s r)) b r))

    drawn_good : (k : ℕ) (s : S) (b : B) (r : Bool) → Good react line out_of b (answers call told s (drawn_of k s b r)) (drawn_of k s b r)
    unfolding drawn_replies
    drawn_good zero s b r = tt
    drawn_good (suc k) s b r = unfold drawn_replies in drawn_after (suc k) s b r

on_bus : {B S : Type 0} (react : B → Event → B) (line : B → Event → Bool) (call : S → Bool → S) (told : S → Bool → Outcome Next) {s : S} {script : Script}
    → ((replies : List Bool) → answers call told s replies ≡ play script replies)
    → (b : B) (replies : List Bool) → Good react line out_of b (answers call told s replies) replies
    → answers call told s replies ≡ played_telling react line script b (length replies)
on_bus react line call told {s} {script} plays b replies g =
    plays replies ∙ (good_does react line script b replies (subst (λ (l : List (Outcome Next)). Good react line out_of b l replies) (plays replies) g)).0

pub script_laws : ScriptLaws
script_laws = record { on_bus = on_bus; drawn = λ react line call told s b first k. (drawn_length react line call told k s b first, drawn_good react line call told k s b first) }
