-- A master joined to a bus. S, B, E and A are the master's states, the bus's, the events and the answers.
use Rattle.std.specs.Prelude.{ℕ, zero, suc, Bool, List, [], ◌∷◌, ◌++◌, ◌≡◌}

-- a list begins with another
pub record Begins {A : Type 0} (whole part : List A) : Type 0 where
  pub rest : List A
  pub is : whole ≡ part ++ rest

-- an answer is an event, or none
pub data Out (E : Type 0) : Type 0 where
  event : E → Out E
  quiet : Out E

-- calls one after the other, each with what it is given, and the answers to them
module _ {S I A : Type 0} (call : S → I → S) (told : S → I → A) where
  abbrev pub calls : S → List I → S
  calls s [] = s
  calls s (i ∷ is) = calls (call s i) is

  abbrev pub answers : S → List I → List A
  answers s [] = []
  answers s (i ∷ is) = told s i ∷ answers (call s i) is

-- what a bus does: the state after an event, and the reply that it draws
module _ {E B : Type 0} (react : B → E → B) (line : B → E → Bool) where
  abbrev pub run : B → List E → B
  run b [] = b
  run b (e ∷ es) = run (react b e) es

  abbrev pub lines : B → List E → List Bool
  lines b [] = []
  lines b (e ∷ es) = line b e ∷ lines (react b e) es

  abbrev pub reached : Out E → B → B
  reached (event e) b = react b e
  reached quiet b = b

  -- the reply that the last event drew
  abbrev pub drew : Out E → B → Bool → Bool
  drew (event e) b r = line b e
  drew quiet b r = r

  module _ {A : Type 0} (out : A → Out E) where
    -- calls that told these answers got these replies, each the one that the last event before it drew
    abbrev pub GoodAfter : B → Bool → List A → List Bool → Type 0
    GoodAfter b drawn answers [] = Unit {0}
    GoodAfter b drawn [] (r ∷ rs) = Unit {0}
    GoodAfter b drawn (a ∷ answers) (r ∷ rs) = (r ≡ drawn) × GoodAfter (reached (out a) b) (drew (out a) b drawn) answers rs

    -- the replies are good: each later call but the first gets the one that the last event before it drew
    abbrev pub Good : B → List A → List Bool → Type 0
    Good b answers [] = Unit {0}
    Good b answers (r ∷ rs) = GoodAfter b r answers (r ∷ rs)

    -- the replies that so many calls get, joined to the bus; the first gets any
    module _ {S : Type 0} (call : S → Bool → S) (told : S → Bool → A) where
      unfoldable pub drawn_replies : ℕ → S → B → Bool → List Bool
      drawn_replies zero s b r = []
      drawn_replies (suc k) s b r = r ∷ drawn_replies k (call s r) (reached (out (told s r)) b) (drew (out (told s r)) b r)
