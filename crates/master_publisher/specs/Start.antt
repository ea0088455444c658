-- The publisher's start, over the page count n.
use Rattle.std.specs.Prelude.{ℕ, true, cond, List, [], Option, Some, None, Result, Ok, Err, eqb, length, get_or, replicate, ⊤}
use Rattle.base_types.specs.Outcome.{Outcome, accepted, refusing}
use Rattle.base_types.specs.declared.address.Page.{Page}
use Rattle.base_types.specs.declared.refusal.Refusal.{Refusal}
use Rattle.base_types.specs.declared.verdict.Verdict.{Verdict}
use Rattle.base_types.specs.declared.verdict.Verdict.TheVariants.{Final, Loop as Looping, Outside as Leaving}
use Rattle.chip_memory.specs.declared.layout.Field.TheVariants.{DataProtection, RedirectionProtection}
use Rattle.chip_memory.specs.Layout.{status_index, is_image, is_page}
use Rattle.chip_memory.specs.Image.{page_bit}
use Rattle.chip_memory.specs.Page.{copied}
use Rattle.chip_chain.specs.Walk.{walk_of}
use Rattle.chip_chain.specs.Free.{lowest_free}
use Rattle.master_plan.specs.declared.kind.Placement.{Placement}
use Rattle.master_plan.specs.declared.kind.Placement.TheVariants.{LowestFree}
use Rattle.master_plan.specs.declared.kind.UpdateKind.{UpdateKind}
use Rattle.master_plan.specs.Places.{bitmap_address}
use Rattle.master_publisher.specs.declared.PublisherStop.{PublisherStop}
use Rattle.master_publisher.specs.declared.PublisherStop.TheVariants.{ImageLength, PageNumber, Loop, Outside, NoFreePage, RedirectionProtected}
use Rattle.master_publisher.specs.declared.PublisherStop.TheVariants.{BufferLength, DataProtected}
use Rattle.master_publisher.specs.declared.Stage.TheVariants.{Running, Stopped}
use Rattle.master_publisher.specs.declared.Publisher.{Publisher}
use Rattle.master_publisher.specs.Stop.{publisher_refusal}

-- ---- L and T: refusals 1, 10, 3, 4, 5, 20, 9, 8, in this order

-- L and T, or why there is no update
abbrev pub Choice : Type 0
Choice = Result (Page × Page) PublisherStop

-- the choice of T by the placement: the lowest free page other than L
abbrev pub target_by : Placement → ℕ → List ℕ → ℕ → Option Page
target_by LowestFree n img l = lowest_free n img l

unfoldable pub found_choice : Page → Option Page → Choice
found_choice l (Some t) = Ok (l, t)
found_choice l None = Err NoFreePage

unfoldable pub choice_free : ℕ → Placement → List ℕ → Page → Choice
choice_free n place img l = found_choice l (target_by place n img l.0)

-- a page whose data are protected is not superseded (M-104)
unfoldable pub choice_final : ℕ → Placement → List ℕ → Page → Choice
choice_final n place img l =
    cond (page_bit n DataProtection img l.0)
    (cond (page_bit n RedirectionProtection img l.0)
    (choice_free n place img l)
    (Err (RedirectionProtected l)))
    (Err (DataProtected l))

-- L is the final page of p
unfoldable pub choice_walked : ℕ → Placement → List ℕ → Verdict → Choice
choice_walked n place img (Final l hops) = choice_final n place img l
choice_walked n place img Looping = Err Loop
choice_walked n place img (Leaving x) = Err (Outside x)

unfoldable pub choice_of : ℕ → Placement → List ℕ → List ℕ → ℕ → Choice
choice_of n place img new p =
    cond (is_image n img)
    (cond (eqb (length new) 32)
    (cond (is_page n p)
    (choice_walked n place img (walk_of n img p))
    (Err PageNumber))
    (Err BufferLength))
    (Err ImageLength)

-- ---- the state

-- the byte with the bitmap bit of page t
unfoldable pub bitmap_byte : ℕ → List ℕ → ℕ → ℕ
bitmap_byte n img t = get_or img (status_index n (bitmap_address t).0) 0

unfoldable pub ready : ℕ → UpdateKind → List ℕ → List ℕ → Page → Page → Publisher
ready n kind img new l t =
    record { kind = kind; stage = Running 0 true; superseded = l; target = t; used = bitmap_byte n img t.0; new = copied new (replicate 32 0) }

-- a refused start's state repeats the refusal
unfoldable pub stopped_by : UpdateKind → PublisherStop → Publisher
stopped_by kind stop =
    record { kind = kind; stage = Stopped stop; superseded = record { 0 = 0 }; target = record { 0 = 0 }; used = 0; new = replicate 32 0 }

unfoldable pub choice_state : ℕ → UpdateKind → List ℕ → List ℕ → Choice → Publisher
choice_state n kind img new (Ok pages) = ready n kind img new pages.0 pages.1
choice_state n kind img new (Err stop) = stopped_by kind stop

-- ---- the entry

abbrev pub start_outcome : Result ⊤ Refusal → Outcome (List ℕ)
start_outcome (Ok t) = accepted []
start_outcome (Err r) = refusing r

abbrev pub choice_outcome : Choice → Outcome (List ℕ)
choice_outcome (Ok pages) = accepted []
choice_outcome (Err stop) = refusing (publisher_refusal stop)

abbrev pub publisher_answer : ℕ → UpdateKind → List ℕ → List ℕ → ℕ → Outcome (List ℕ)
publisher_answer n kind img new p = choice_outcome (choice_of n kind.placement img new p)

abbrev pub publisher_state : ℕ → UpdateKind → List ℕ → List ℕ → ℕ → Publisher
publisher_state n kind img new p = choice_state n kind img new (choice_of n kind.placement img new p)
