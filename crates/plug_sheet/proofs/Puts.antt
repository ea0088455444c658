-- Bytes put into a buffer, a part after the other.
use Prim.Native.Nat.{ℕ, zero, suc, ◌+◌, ◌-◌, ◌≤◌, min}
use mathlib.Core.Path.{◌≡◌, refl, sym, ap, ◌∙◌}
use mathlib.Core.List.{List, [], ◌∷◌, ◌++◌, append-nil, append_assoc}
use native.Mathlib.Decide.{dec_le}
use native.Mathlib.Nat.{add-zero, zero-add, suc-add}
use native.Mathlib.Numerals.{add-one}
use native.Mathlib.Omega.{arith}
use lib.ListN.{length, take, drop, length-append, length-take, length-drop, take-append-drop, drop_of_length-le}
use lib.Seq.{take_all}
use Rattle.chip_memory.specs.Page.{copied}
use Rattle.chip_memory.proofs.Pages.{copied_length}
use Rattle.plug_sheet.specs.declared.list.Text.{Text}
use Rattle.plug_sheet.specs.Text.{put_at}
use Rattle.plug_sheet.specs.List.{page_line, page_lines}
use Rattle.plug_sheet.specs.Writer.{Gains}

copied_nothing : (b : List ℕ) → copied b [] ≡ []
unfolding copied
copied_nothing [] = refl
copied_nothing (x ∷ b) = refl

length-put_at : (at : ℕ) (b buffer : List ℕ) → length (put_at at b buffer) ≡ length buffer
unfolding put_at
length-put_at at b buffer = simp (length-append, copied_length, length-take, length-drop) (omega arith)

put_first : (b buffer : List ℕ) → put_at 0 b buffer ≡ copied b buffer
unfolding put_at
put_first b [] = refl
put_first b (o ∷ buffer) = refl

put_none : (at : ℕ) (buffer : List ℕ) → put_at at [] buffer ≡ buffer
unfolding put_at copied
put_none at buffer = take-append-drop at buffer

-- past the end nothing is put
put_full : (at : ℕ) (b buffer : List ℕ) → length buffer ≤ at → put_at at b buffer ≡ buffer
unfolding put_at
put_full at b buffer h = simp (drop_of_length-le buffer h, copied_nothing b, append-nil (take at buffer)) (take_all at buffer h)

put_past : (at : ℕ) (b : List ℕ) → put_at (suc at) b [] ≡ []
unfolding put_at
put_past at b = copied_nothing b

put_on : (at : ℕ) (b : List ℕ) (o : ℕ) (buffer : List ℕ) → put_at (suc at) b (o ∷ buffer) ≡ o ∷ put_at at b buffer
unfolding put_at
put_on at b o buffer = refl

after_copy : (a b buffer : List ℕ) → put_at (length a) b (copied a buffer) ≡ copied (a ++ b) buffer
unfolding copied
after_copy [] b buffer = put_first b buffer
after_copy (x ∷ a) b [] = put_past (length a) b
after_copy (x ∷ a) b (o ∷ buffer) = put_on (length a) b x (copied a buffer) ∙ ap (λ (l : List ℕ). x ∷ l) (after_copy a b buffer)

-- two puts, the second where the first ended, are one
put_append : (at : ℕ) (a b buffer : List ℕ) → put_at (at + length a) b (put_at at a buffer) ≡ put_at at (a ++ b) buffer
put_append zero a b buffer = simp (zero-add (length a), put_first) (after_copy a b buffer)
put_append (suc at) a b [] = simp (suc-add at (length a), put_past)
put_append (suc at) a b (o ∷ buffer) = simp (suc-add at (length a), put_on, put_append at a b buffer)

-- the same, where the first ended at the end of the buffer
put_next : (at : ℕ) (a b buffer : List ℕ) → put_at (min (at + length a) (length buffer)) b (put_at at a buffer) ≡ put_at at (a ++ b) buffer
put_next at a b buffer = go (dec_le (at + length a) (length buffer))
  where
    go : Dec (at + length a ≤ length buffer) → put_at (min (at + length a) (length buffer)) b (put_at at a buffer) ≡ put_at at (a ++ b) buffer
    go (yes h) = let e : min (at + length a) (length buffer) ≡ at + length a = omega arith in rw e (put_append at a b buffer)
    go (no h) =
        let e : min (at + length a) (length buffer) ≡ length buffer = omega arith in
        let l = length-put_at at a buffer in
        rw e (put_full (length buffer) b (put_at at a buffer) (omega arith))
        ∙ sym (put_full (at + length a) b (put_at at a buffer) (omega arith)) ∙ put_append at a b buffer

-- a copy into the part from place at on is a put
pub put_back : (at : ℕ) (bytes old last : List ℕ) → last ≡ copied bytes (take (length old - at) (drop at old))
    → take at old ++ (last ++ drop (length old - at) (drop at old)) ≡ put_at at bytes old
unfolding put_at
put_back at bytes old last e =
    let long : length (drop at old) ≤ length old - at = rw length-drop (omega arith) in
    rw (e, drop_of_length-le (drop at old) long, take_all (length old - at) (drop at old) long, append-nil (copied bytes (drop at old)))

-- ---- a text that gains bytes

pub gains_nothing : (text : Text) → Gains text [] text
gains_nothing text = let h = text.within in record { same = refl; size = omega arith; buffer = sym (put_none text.size text.buffer.now) }

pub gains_then : {old mid new : Text} {a b : List ℕ} → Gains old a mid → Gains mid b new → Gains old (a ++ b) new
gains_then {old} {mid} {new} {a} {b} p q =
    let l : length mid.buffer.now ≡ length old.buffer.now = ap length p.buffer ∙ length-put_at old.size a old.buffer.now in
    record {
      same = q.same ∙ p.same;
      size = omega (arith, length-append a b, p.size, q.size, l);
      buffer = q.buffer ∙ ap (λ (k : ℕ). put_at k b mid.buffer.now) p.size ∙ ap (put_at _ b) p.buffer ∙ put_next old.size a b old.buffer.now;
    }

-- a text from the start of its buffer, where there is room for it
pub gains_whole : {old new : Text} {bytes : List ℕ} → Gains old bytes new → old.size ≡ 0 → length bytes ≤ length old.buffer.now
    → (new.size ≡ length bytes) × (new.buffer.now ≡ copied bytes old.buffer.now)
gains_whole {old} {new} {bytes} g e h = (omega (arith, g.size), g.buffer ∙ ap (λ (k : ℕ). put_at k bytes old.buffer.now) e ∙ put_first bytes old.buffer.now)

-- the lines of one page more
lines_more : (n : ℕ) (img : List ℕ) (k q : ℕ) → page_lines n img (suc k) q ≡ page_lines n img k q ++ page_line n img (q + k)
unfolding page_lines
lines_more n img zero q = rw add-zero (append-nil (page_line n img q))
lines_more n img (suc k) q =
    let e : q + 1 + k ≡ q + suc k = omega arith in
    simp (lines_more n img k (q + 1), e, append_assoc)

pub gains_line : {old mid new : Text} (n : ℕ) (img : List ℕ) (k : ℕ) → Gains old (page_lines n img k 0) mid → Gains mid (page_line n img k) new
    → Gains old (page_lines n img (k + 1) 0) new
gains_line n img k p q = rw (add-one, lines_more n img k 0, zero-add k) (gains_then p q)
