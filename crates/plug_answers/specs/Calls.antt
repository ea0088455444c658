-- What callers in C can get wrong before a master is asked: a page, a reply, the answer's buffer.
use Rattle.std.specs.Prelude.{ℕ, Bool, true, cond, ◌&&◌, List, ltb}
use Rattle.base_types.specs.Outcome.{Outcome, accepted, judge, Done, done, following, in_order}
use Rattle.plug_answers.specs.Answers.{is_answer}

-- the number as a page of one byte: none that a byte does not hold is a page of the chip, and 255 is none either
abbrev pub page_number : ℕ → ℕ
page_number number = cond (ltb number 256) number 255

-- a number is a reply
unfoldable pub is_reply : ℕ → Bool
is_reply reply = ltb reply 2

-- a reply to a state that is within its ranges or not: 2, 10
unfoldable pub reply_judged : Bool → ℕ → List ℕ → Outcome Done
reply_judged ranges reply answer = in_order true (ranges && is_reply reply) (is_answer answer)

-- a call on bytes that hold a state or none: 2 for these, and then so
abbrev pub call_judged : Outcome Done → Bool → ℕ → List ℕ → Outcome Done
call_judged unpacked ranges reply answer = following unpacked (reply_judged ranges reply answer)

-- 10 for the answer's buffer, then the rest
abbrev pub answer_judged : List ℕ → Outcome Done → Outcome Done
answer_judged answer rest = judge (is_answer answer) 10 rest

-- that it is accepted, and nothing more
abbrev pub whether : {A : Type 0} → Outcome A → Outcome Done
whether told = following told (accepted done)
