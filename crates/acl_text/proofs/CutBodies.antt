-- Whole lines with which a text begins, and what comes after them.
use Rattle.std.proofs.Common.{◌≡◌, ℕ, ◌+◌, ◌<◌, Bool, true, false, cond, List, [], ◌∷◌, ◌++◌, length, drop, inr, refl, sym, ap, ◌∙◌, append_assoc, arith, length-append}
use Rattle.std.specs.Prelude.{◌==◌, ◌||◌, codes, nat_eq, if◌then◌else◌}
use Rattle.std.specs.List.{AllByRecursion, list_any, onto_first, join_with_byte, starts_with}
use Rattle.std.proofs.lemmas.List.Splits.{join_with_byte-slice_split}
use Rattle.std.proofs.lemmas.Bool.Decides.{Decides-eqb}
use Rattle.std.proofs.lemmas.Slice.Eq.{starts_is}
use Rattle.acl_names.specs.Pieces.{pieces}
use Rattle.acl_names.proofs.Basics.{same_bools}
use Rattle.acl_text.specs.Blanks.{is_blank, trim_front, trimmed}
use Rattle.acl_text.proofs.Plain.{pieces_at}
use Rattle.acl_text.specs.Entries.{content}
use Rattle.acl_text.specs.declared.entries.Sep.TheVariants.{Line}
use Rattle.acl_text.specs.declared.line.LineKind.{LineKind}
use Rattle.acl_text.specs.declared.line.LineKind.TheVariants.{Nothing, File, Owner, OwningGroup, Flags, Entry}
use Rattle.acl_text.specs.Lines.{content_after_white_space, header_of, without_space, begins_record, begins_with}
use Rattle.acl_text.specs.SameBodies.{begins_one, BeginNone, IsBody, BeginsOne, SaysEnds}

-- ---- pieces

abbrev put : Bool → ℕ → List (List ℕ) → List (List ℕ)
put c b ps = cond c ([] ∷ ps) (onto_first b ps)

put_some : (c : Bool) (b : ℕ) (ps : List (List ℕ)) → put c b ps ≡ [] → ⊥
put_some true b ps e = cc
put_some false b [] e = cc
put_some false b (p ∷ ps) e = cc

pub some_pieces : (x : List ℕ) → pieces 10 x ≡ [] → ⊥
some_pieces [] e = cc
some_pieces (b ∷ bs) e = put_some (b == 10) b (pieces 10 bs) e

not_none : (ls : List (List ℕ)) (l : List ℕ) → [] ≡ ls ++ l ∷ [] → ⊥
not_none [] l e = cc
not_none (k ∷ ls) l e = cc

head_is : (a b : List ℕ) (xs bs : List (List ℕ)) → a ∷ xs ≡ b ∷ bs → a ≡ b
head_is a b xs bs e = cc

tail_is : (a b : List ℕ) (xs bs : List (List ℕ)) → a ∷ xs ≡ b ∷ bs → xs ≡ bs
tail_is a b xs bs e = cc

put_after : (c : Bool) (b : ℕ) (ps after tail each : List (List ℕ)) → (ps ≡ [] → ⊥) → put c b ps ≡ each ++ [] ∷ []
    → ((ls : List (List ℕ)) → ps ≡ ls ++ [] ∷ [] → after ≡ ls ++ tail) → put c b after ≡ each ++ tail
put_after true b ps after tail [] some e again = absurd (some (tail_is [] [] ps [] e))
put_after true b ps after tail (l ∷ ls) some e again =
    ap (λ t. [] ∷ t) (again ls (tail_is [] l ps (ls ++ [] ∷ []) e)) ∙ ap (λ k. k ∷ (ls ++ tail)) (head_is [] l ps (ls ++ [] ∷ []) e)
put_after false b [] after tail each some e again = absurd (some refl)
put_after false b (p ∷ ps) after tail [] some e again = absurd (let bad : b ∷ p ≡ [] = head_is (b ∷ p) [] ps [] e in cc bad)
put_after false b (p ∷ ps) after tail (l ∷ ls) some e again =
    ap (onto_first b) (again (p ∷ ls) (ap (λ t. p ∷ t) (tail_is (b ∷ p) l ps (ls ++ [] ∷ []) e))) ∙ ap (λ k. k ∷ (ls ++ tail)) (head_is (b ∷ p) l ps (ls ++ [] ∷ []) e)

-- what comes after whole lines is cut as if it were alone
pub pieces_after : (front x : List ℕ) (each : List (List ℕ)) → pieces 10 front ≡ each ++ [] ∷ [] → pieces 10 (front ++ x) ≡ each ++ pieces 10 x
pieces_after [] x [] e = refl
pieces_after [] x (l ∷ ls) e = absurd (not_none ls [] (tail_is [] l [] (ls ++ [] ∷ []) e))
pieces_after (b ∷ bs) x each e = put_after (b == 10) b (pieces 10 bs) (pieces 10 (bs ++ x)) (pieces 10 x) each (some_pieces bs) e (λ ls. pieces_after bs x ls)

join_first : (l : List ℕ) (ps : List (List ℕ)) → (ps ≡ [] → ⊥) → join_with_byte 10 (l ∷ ps) ≡ l ++ 10 ∷ join_with_byte 10 ps
join_first l [] some = absurd (some refl)
join_first l (p ∷ ps) some = refl

-- a line that is cut off had a newline
pub joined : (rest line after : List ℕ) → pieces 10 rest ≡ line ∷ pieces 10 after → rest ≡ line ++ 10 ∷ after
joined rest line after e =
    sym (join_with_byte-slice_split 10 rest)
    ∙ (ap (join_with_byte 10) e
    ∙ (join_first line (pieces 10 after) (some_pieces after)
    ∙ ap (λ t. line ++ 10 ∷ t) (join_with_byte-slice_split 10 after)))

clean : (line : List ℕ) → list_any (λ b. b == 10) line ≡ false → AllByRecursion (λ b. (b == 10) ≡ false) line
clean [] e = tt
clean (b ∷ bs) e = by (b == 10) refl e (λ e. clean bs e)
  where
    by : (c : Bool) → (b == 10) ≡ c → (c || list_any (λ b. b == 10) bs) ≡ false
        → (list_any (λ b. b == 10) bs ≡ false → AllByRecursion (λ b. (b == 10) ≡ false) bs) → ((b == 10) ≡ false) × AllByRecursion (λ b. (b == 10) ≡ false) bs
    by true is e again = absurd (cc e)
    by false is e again = (is, again e)

-- ---- bodies

pub none_more : (ls : List (List ℕ)) (l : List ℕ) → BeginNone ls → begins_one l ≡ false → BeginNone (ls ++ l ∷ [])
none_more [] l none is = (is, tt)
none_more (k ∷ ls) l none is = (none.0, none_more ls l none.1 is)

pub none_all : (ls ks : List (List ℕ)) → BeginNone ls → BeginNone ks → BeginNone (ls ++ ks)
none_all [] ks none more = more
none_all (l ∷ ls) ks none more = (none.0, none_all ls ks none.1 more)

pub no_lines : IsBody [] 0
no_lines = record { each = []; parts = refl; none = tt; counted = refl; few = omega arith }

-- one line more
pub line_more : (front rest line after : List ℕ) (count : ℕ) → IsBody front count → pieces 10 rest ≡ line ∷ pieces 10 after → list_any (λ b. b == 10) line ≡ false → begins_one line ≡ false
    → IsBody (front ++ (line ++ 10 ∷ [])) (count + 1)
line_more front rest line after count body parts no_newline begins_none = record {
  each = body.each ++ line ∷ [];
  parts =
      pieces_after front (line ++ 10 ∷ []) body.each body.parts
      ∙ (ap (λ ps. body.each ++ ps) (pieces_at 10 line [] (clean line no_newline))
      ∙ sym (append_assoc body.each (line ∷ []) ([] ∷ [])));
  none = none_more body.each line body.none begins_none;
  counted = length-append body.each (line ∷ []) ∙ ap (λ n. n + 1) body.counted;
  few =
      let all = length-append front (line ++ 10 ∷ []) in
      let last = length-append line (10 ∷ []) in
      let few = body.few in
      omega (arith, all, last, few);
}

-- ---- where a record begins

abbrev starts : List ℕ → Bool
starts text = begins_with text (codes "file:")

abbrev after_blanks : List ℕ → Bool
after_blanks [] = false
after_blanks (b ∷ bs) = if b == 35 then starts (trim_front bs) else false

abbrev kind_begins : LineKind × List ℕ → Bool
kind_begins c = begins_record c.0

header_begins : (text : List ℕ) → kind_begins (header_of text) ≡ starts text
header_begins text = by (begins_with text (codes "file:")) (begins_with text (codes "owner:")) (begins_with text (codes "group:")) (begins_with text (codes "flags:"))
  where
    by : (a b c d : Bool)
        → kind_begins (if a then (File, without_space (drop 5 text))
        else (if b then (Owner, trimmed (drop 6 text)) else (if c then (OwningGroup, trimmed (drop 6 text)) else (if d then (Flags, trimmed (drop 6 text)) else (Nothing, []))))) ≡ a
    by true b c d = refl
    by false true c d = refl
    by false false true d = refl
    by false false false true = refl
    by false false false false = refl

begins_is : (text : List ℕ) → kind_begins (content_after_white_space text) ≡ after_blanks text
begins_is [] = refl
begins_is (b ∷ bs) = by (b == 35)
  where
    by : (c : Bool) → kind_begins (if c then header_of (trim_front bs) else (Entry, content Line (b ∷ bs))) ≡ (if c then starts (trim_front bs) else false)
    by true = header_begins (trim_front bs)
    by false = refl

trim_line : (x y : List ℕ) → trim_front (x ++ 10 ∷ y) ≡ trim_front x ++ 10 ∷ y
trim_line [] y = refl
trim_line (b ∷ bs) y = by (is_blank b) (trim_line bs y)
  where
    by : (c : Bool) → trim_front (bs ++ 10 ∷ y) ≡ trim_front bs ++ 10 ∷ y → (if c then trim_front (bs ++ 10 ∷ y) else b ∷ (bs ++ 10 ∷ y)) ≡ (if c then trim_front bs else b ∷ bs) ++ 10 ∷ y
    by true again = again
    by false again = refl

abbrev IsLine : List ℕ → Type 0
IsLine word = AllByRecursion (λ b. (b == 10) ≡ false) word

word_within : (word line y more : List ℕ) → IsLine word → line ++ 10 ∷ y ≡ word ++ more → (rest : List ℕ) × (line ≡ word ++ rest)
word_within [] line y more is e = (line, refl)
word_within (q ∷ qs) [] y more is e = absurd (let same : 10 ≡ q = cc in let other = ap (λ b. b == 10) same ∙ is.0 in cc other)
word_within (q ∷ qs) (b ∷ bs) y more is e =
    let tails : bs ++ 10 ∷ y ≡ qs ++ more = cc in
    let heads : b ≡ q = cc in
    let w = word_within qs bs y more is.1 tails in
    (w.0, ap (λ t. b ∷ t) w.1 ∙ ap (λ (h : ℕ). h ∷ (qs ++ w.0)) heads)

begins_alike : (word line y : List ℕ) → IsLine word → begins_with (line ++ 10 ∷ y) word ≡ begins_with line word
begins_alike word line y is =
    let whole = starts_is Decides-eqb (line ++ 10 ∷ y) word (begins_with (line ++ 10 ∷ y) word) refl in
    let part = starts_is Decides-eqb line word (begins_with line word) refl in
    same_bools (begins_with (line ++ 10 ∷ y) word) (begins_with line word)
    (λ yes. let w = word_within word line y _ is (whole.0 yes) in part.1 w.0 w.1)
    (λ yes. whole.1 (drop (length word) line ++ 10 ∷ y) (ap (λ t. t ++ 10 ∷ y) (part.0 yes) ∙ append_assoc word (drop (length word) line) (10 ∷ y)))

blanks_line : (t y : List ℕ) → after_blanks (t ++ 10 ∷ y) ≡ after_blanks t
blanks_line [] y = refl
blanks_line (b ∷ bs) y =
    ap (λ c. if b == 35 then c else false)
    (ap starts (trim_line bs y) ∙ begins_alike (codes "file:") (trim_front bs) y (refl, (refl, (refl, (refl, (refl, tt))))))

line_begins : (line y : List ℕ) → begins_one (line ++ 10 ∷ y) ≡ begins_one line
line_begins line y =
    begins_is (trim_front (line ++ 10 ∷ y))
    ∙ (ap after_blanks (trim_line line y)
    ∙ (blanks_line (trim_front line) y
    ∙ sym (begins_is (trim_front line))))

-- whether a text begins with a line that begins a record
first_begins : (text first : List ℕ) (others : List (List ℕ)) → pieces 10 text ≡ first ∷ others → begins_one text ≡ begins_one first
first_begins text first [] e = ap begins_one (sym (join_with_byte-slice_split 10 text) ∙ ap (join_with_byte 10) e)
first_begins text first (l ∷ ls) e =
    ap begins_one (sym (join_with_byte-slice_split 10 text) ∙ ap (join_with_byte 10) e)
    ∙ line_begins first (join_with_byte 10 (l ∷ ls))

says_begins : (text : List ℕ) (ps : List (List ℕ)) → pieces 10 text ≡ ps → begins_one text ≡ true → BeginsOne text
says_begins text [] is first = absurd (some_pieces text is)
says_begins text (p ∷ ps) is first = record { first = p; others = ps; parts = is; begins = sym (first_begins text p ps is) ∙ first }

pub says_ends : (r : Bool) (text : List ℕ) → 0 < length text → r ≡ begins_one text → SaysEnds r text
says_ends true text some e = inr (says_begins text (pieces 10 text) refl (sym e))
says_ends false text some e = (some, λ first others is. sym (first_begins text first others is) ∙ sym e)

pub cut_at : (text body : List ℕ) (r : Bool) → r ≡ true → r ≡ starts_with nat_eq text body → text ≡ body ++ drop (length body) text
cut_at text body r is e = (starts_is Decides-eqb text body r e).0 is

pub other_kind : (k : LineKind) → (k ≡ File → ⊥) → begins_record k ≡ false
other_kind Nothing is = refl
other_kind File is = absurd (is refl)
other_kind Owner is = refl
other_kind OwningGroup is = refl
other_kind Flags is = refl
other_kind Entry is = refl
