-- The machine's steps: a reply is judged by the plan's step before it, and the next event is the plan's.
use Rattle.std.specs.Prelude.{ℕ, ◌+◌, ◌-◌, Bool, true, not, cond, ◌&&◌, List, Result, Ok, Err, eqb, ltb, get_or}
use Rattle.base_types.specs.Bits.{same}
use Rattle.base_types.specs.declared.address.Page.{Page}
use Rattle.base_types.specs.declared.refusal.Refusal.{Refusal}
use Rattle.base_types.specs.declared.stepped.Stepped.{Stepped}
use Rattle.bus_events.specs.declared.Next.{Next}
use Rattle.bus_events.specs.declared.Next.TheVariants.{Send, End}
use Rattle.master_plan.specs.declared.Wanted.{Wanted}
use Rattle.master_plan.specs.declared.Wanted.TheVariants.{Anything, Presence, Bit, LastCrcBit, LastBackBit}
use Rattle.master_plan.specs.declared.Step.{Step}
use Rattle.master_plan.specs.Kind.{total_of}
use Rattle.master_plan.specs.Plan.{reset_step, plan_of}
use Rattle.master_publisher.specs.declared.PublisherStop.{PublisherStop}
use Rattle.master_publisher.specs.declared.PublisherStop.TheVariants.{Crc16, ReadBack, NoPresence}
use Rattle.master_publisher.specs.declared.Stage.{Stage}
use Rattle.master_publisher.specs.declared.Stage.TheVariants.{Running, Done, Stopped}
use Rattle.master_publisher.specs.declared.Publisher.{Publisher}
use Rattle.master_publisher.specs.Stop.{publisher_refusal}

-- the plan of a state, and how many events it has
abbrev pub plan_in : Publisher → List Step
plan_in s = plan_of s.kind s.superseded.0 s.target.0 s.used s.new

abbrev pub total_in : Publisher → ℕ
total_in s = total_of s.kind

-- ---- a reply against what it has to be

-- what a reply leads to: on, with whether the bits so far agree; or what stops it
abbrev pub Judged : Type 0
Judged = Result Bool PublisherStop

unfoldable pub judged_last : Bool → PublisherStop → Judged
judged_last good stop = cond good (Ok true) (Err stop)

-- good: the bits of the present CRC or byte have agreed so far
unfoldable pub judged_of : Wanted → Bool → Bool → Judged
judged_of Anything good reply = Ok true
judged_of Presence good reply = judged_last (not reply) NoPresence
judged_of (Bit b) good reply = Ok (good && same b reply)
judged_of (LastCrcBit b) good reply = judged_last (good && same b reply) Crc16
judged_of (LastBackBit b) good reply = judged_last (good && same b reply) ReadBack

-- ---- a call, by a plan with so many events

-- event number k of a plan, counted from 0
unfoldable pub step_of : List Step → ℕ → Step
step_of plan k = get_or plan k reset_step

-- what the reply that comes after k events has to be; the first one is not looked at
unfoldable pub wanted_of : List Step → ℕ → Wanted
wanted_of plan k = cond (eqb k 0) Anything (step_of plan (k - 1)).wanted

abbrev pub at_stage : Publisher → Stage → Publisher
at_stage s stage = record s { stage = stage }

-- what a call tells, and the state after it
abbrev pub Turn : Type 0
Turn = Stepped (Result (Next (Page × Page)) Refusal) Publisher

-- the next event, or the end
unfoldable pub gone_on : ℕ → List Step → Publisher → ℕ → Bool → Turn
gone_on total plan s k good =
    cond (ltb k total)
    (record { answer = Ok (Send (step_of plan k).event); state = at_stage s (Running (k + 1) good) })
    (record { answer = Ok (End (s.superseded, s.target)); state = at_stage s Done })

unfoldable pub judged_turn : ℕ → List Step → Publisher → ℕ → Judged → Turn
judged_turn total plan s k (Ok good) = gone_on total plan s k good
judged_turn total plan s k (Err stop) = record { answer = Err (publisher_refusal stop); state = at_stage s (Stopped stop) }

unfoldable pub turn_of : ℕ → List Step → Publisher → Stage → Bool → Turn
turn_of total plan s (Running k good) reply = judged_turn total plan s k (judged_of (wanted_of plan k) good reply)
turn_of total plan s Done reply = record { answer = Ok (End (s.superseded, s.target)); state = s }
turn_of total plan s (Stopped stop) reply = record { answer = Err (publisher_refusal stop); state = s }
