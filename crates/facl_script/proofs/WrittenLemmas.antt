-- A line has the words that it spells, and no other.
use Rattle.std.proofs.Common.{◌≡◌, ◌<◌, ℕ, Bool, true, false, cond, List, [], ◌∷◌, ◌++◌, length, map, Option, None, Some, refl, sym, ap, ◌∙◌, subst, append_assoc, append-nil, arith}
use Rattle.std.specs.Prelude.{option_map}
use Rattle.std.specs.List.{AllByRecursion, flat_map, join_with_byte}
use Rattle.std.proofs.lemmas.Bool.{eqb-true}
use Rattle.std.proofs.lemmas.Option.{none-some}
use Rattle.facl_script.specs.declared.words.Place.{Place}
use Rattle.facl_script.specs.declared.words.Place.TheVariants.{Between, Within, Quoted}
use Rattle.facl_script.specs.Words.{is_blank, is_quote, onto_word, words_at, words_of}
use Rattle.facl_script.proofs.WordLemmas.{words_seen, seen_step, begins, onto_first_word as first_word}
use Rattle.facl_script.specs.Written.{Part, bare, quoted, written, part_text, IsPart, IsWhiteSpace, Word, word_written, word_text, AreWords, Spells}

-- what is left of a line from within a word on: the rest of that word, white space, and words
record SpellsWithin (line : List ℕ) (words : List (List ℕ)) : Type 0 where
  parts : List Part
  gap : List ℕ
  spelled : List Word
  parts_are : AllByRecursion IsPart parts
  gap_is : IsWhiteSpace gap
  last : length gap ≡ 0 → spelled ≡ []
  words_are : AreWords spelled
  line_is : line ≡ (flat_map written parts ++ gap) ++ flat_map word_written spelled
  words_are_texts : words ≡ flat_map part_text parts ∷ map word_text spelled

-- these bytes go to the front of the first of some words
abbrev onto_words : List ℕ → List (List ℕ) → List (List ℕ)
onto_words bytes [] = []
onto_words bytes (word ∷ words) = (bytes ++ word) ∷ words

-- what is left from within a quote on: the rest of that quote, and then what is left of the word
record SpellsQuoted (line : List ℕ) (words : List (List ℕ)) : Type 0 where
  bytes : List ℕ
  rest : List ℕ
  inner : List (List ℕ)
  bytes_are : AllByRecursion (λ b. is_quote b ≡ false) bytes
  line_is : line ≡ bytes ++ 39 ∷ rest
  within : SpellsWithin rest inner
  words_are_texts : words ≡ onto_words bytes inner

-- A. A line that spells words has them.

seen_white : (gap rest : List ℕ) (done : List (List ℕ)) → IsWhiteSpace gap → words_seen done [] Between (gap ++ rest) ≡ words_seen done [] Between rest
seen_white [] rest done h = refl
seen_white (b ∷ gap) rest done h = rw h.0 (seen_white gap rest done h.1)

seen_bare : (bytes rest : List ℕ) (done : List (List ℕ)) (so_far : List ℕ) → AllByRecursion (λ b. (is_blank b ≡ false) × (is_quote b ≡ false)) bytes
    → words_seen done so_far Within (bytes ++ rest) ≡ words_seen done (so_far ++ bytes) Within rest
seen_bare [] rest done so_far h = rw (append-nil so_far) refl
seen_bare (b ∷ bytes) rest done so_far h =
    seen_step done so_far Within b (bytes ++ rest) ∙ rw (h.0.0, h.0.1) (seen_bare bytes rest done (so_far ++ b ∷ []) h.1 ∙ ap (λ l. words_seen done l Within rest) (append_assoc so_far (b ∷ []) bytes))

seen_in_quotes : (bytes rest : List ℕ) (done : List (List ℕ)) (so_far : List ℕ) → AllByRecursion (λ b. is_quote b ≡ false) bytes
    → words_seen done so_far Quoted (bytes ++ 39 ∷ rest) ≡ words_seen done (so_far ++ bytes) Within rest
seen_in_quotes [] rest done so_far h = rw (append-nil so_far) refl
seen_in_quotes (b ∷ bytes) rest done so_far h =
    seen_step done so_far Quoted b (bytes ++ 39 ∷ rest) ∙ rw h.0 (seen_in_quotes bytes rest done (so_far ++ b ∷ []) h.1 ∙ ap (λ l. words_seen done l Within rest) (append_assoc so_far (b ∷ []) bytes))

seen_quoted_part : (bytes rest : List ℕ) (done : List (List ℕ)) (so_far : List ℕ) → AllByRecursion (λ b. is_quote b ≡ false) bytes
    → words_seen done so_far Quoted ((bytes ++ 39 ∷ []) ++ rest) ≡ words_seen done (so_far ++ bytes) Within rest
seen_quoted_part bytes rest done so_far h = ap (words_seen done so_far Quoted) (append_assoc bytes (39 ∷ []) rest) ∙ seen_in_quotes bytes rest done so_far h

seen_part : (part : Part) (rest : List ℕ) (done : List (List ℕ)) (so_far : List ℕ) → IsPart part
    → words_seen done so_far Within (written part ++ rest) ≡ words_seen done (so_far ++ part_text part) Within rest
seen_part (bare bytes) rest done so_far h = seen_bare bytes rest done so_far h.1
seen_part (quoted bytes) rest done so_far h = seen_quoted_part bytes rest done so_far h

seen_parts : (parts : List Part) (rest : List ℕ) (done : List (List ℕ)) (so_far : List ℕ) → AllByRecursion IsPart parts
    → words_seen done so_far Within (flat_map written parts ++ rest) ≡ words_seen done (so_far ++ flat_map part_text parts) Within rest
seen_parts [] rest done so_far h = rw (append-nil so_far) refl
seen_parts (part ∷ parts) rest done so_far h =
    ap (words_seen done so_far Within) (append_assoc (written part) (flat_map written parts) rest) ∙ seen_part part (flat_map written parts ++ rest) done so_far h.0
    ∙ seen_parts parts rest done (so_far ++ part_text part) h.1 ∙ ap (λ l. words_seen done l Within rest) (append_assoc so_far (part_text part) (flat_map part_text parts))

seen_first_part : (part : Part) (rest : List ℕ) (done : List (List ℕ)) → IsPart part → words_seen done [] Between (written part ++ rest) ≡ words_seen done (part_text part) Within rest
seen_first_part (bare []) rest done h = absurd (omega (arith, h.0))
seen_first_part (bare (b ∷ bytes)) rest done h = seen_step done [] Between b (bytes ++ rest) ∙ rw (h.1.0.0, h.1.0.1) (seen_bare bytes rest done (b ∷ []) h.1.1)
seen_first_part (quoted bytes) rest done h = seen_quoted_part bytes rest done [] h

-- a word, up to the white space after it
seen_word : (w : Word) (rest : List ℕ) (done : List (List ℕ)) → IsPart w.part → AllByRecursion IsPart w.parts
    → words_seen done [] Between ((written w.part ++ flat_map written w.parts) ++ rest) ≡ words_seen done (word_text w) Within rest
seen_word w rest done h t =
    ap (words_seen done [] Between) (append_assoc (written w.part) (flat_map written w.parts) rest) ∙ seen_first_part w.part (flat_map written w.parts ++ rest) done h
    ∙ seen_parts w.parts rest done (part_text w.part) t

-- the white space after it
seen_gap : (gap rest : List ℕ) (done : List (List ℕ)) (so_far : List ℕ) → IsWhiteSpace gap → 0 < length gap
    → words_seen done so_far Within (gap ++ rest) ≡ words_seen (done ++ so_far ∷ []) [] Between rest
seen_gap [] rest done so_far h some = absurd (omega (arith, some))
seen_gap (b ∷ gap) rest done so_far h some = seen_step done so_far Within b (gap ++ rest) ∙ rw h.0 (seen_white gap rest (done ++ so_far ∷ []) h.1)

seen_end : (done : List (List ℕ)) (so_far : List ℕ) → words_seen done so_far Within [] ≡ Some (done ++ so_far ∷ [])
seen_end done so_far = ap (λ ws. Some (done ++ ws)) (first_word so_far [])

seen_words : (ws : List Word) (done : List (List ℕ)) → AreWords ws → words_seen done [] Between (flat_map word_written ws) ≡ Some (done ++ map word_text ws)
seen_words [] done h = refl
seen_words (w ∷ ws) done h =
    ap (words_seen done [] Between) (append_assoc (written w.part ++ flat_map written w.parts) w.gap (flat_map word_written ws))
    ∙ seen_word w (w.gap ++ flat_map word_written ws) done h.0 h.1 ∙ after w.gap h.2 h.3 (seen_words ws (done ++ word_text w ∷ []) h.4)
  where
    after : (gap : List ℕ) → IsWhiteSpace gap → (length gap ≡ 0 → ws ≡ [])
        → words_seen (done ++ word_text w ∷ []) [] Between (flat_map word_written ws) ≡ Some ((done ++ word_text w ∷ []) ++ map word_text ws)
        → words_seen done (word_text w) Within (gap ++ flat_map word_written ws) ≡ Some (done ++ word_text w ∷ map word_text ws)
    after [] white last others = rw (last refl) (seen_end done (word_text w))
    after (b ∷ gap) white last others =
        seen_gap (b ∷ gap) (flat_map word_written ws) done (word_text w) white (omega arith) ∙ others ∙ ap Some (append_assoc done (word_text w ∷ []) (map word_text ws))

pub has_spelled : (line : List ℕ) (words : List (List ℕ)) → Spells line words → words_of line ≡ Some words
has_spelled line words h =
    begins line ∙ ap (words_seen [] [] Between) h.line_is ∙ seen_white h.front (flat_map word_written h.spelled) [] h.front_is ∙ seen_words h.spelled [] h.words_are ∙ ap Some (sym h.words_are_texts)

seen_joined : (words : List Part) (done : List (List ℕ)) → AllByRecursion IsPart words → words_seen done [] Between (join_with_byte 32 (map written words)) ≡ Some (done ++ map part_text words)
seen_joined [] done h = refl
seen_joined (w ∷ []) done h = ap (words_seen done [] Between) (sym (append-nil (written w))) ∙ seen_first_part w [] done h.0 ∙ seen_end done (part_text w)
seen_joined (w ∷ v ∷ ws) done h =
    seen_first_part w (32 ∷ join_with_byte 32 (map written (v ∷ ws))) done h.0 ∙ seen_gap (32 ∷ []) (join_with_byte 32 (map written (v ∷ ws))) done (part_text w) (refl, tt) (omega arith)
    ∙ seen_joined (v ∷ ws) (done ++ part_text w ∷ []) h.1 ∙ ap Some (append_assoc done (part_text w ∷ []) (map part_text (v ∷ ws)))

pub has_joined : (words : List Part) → AllByRecursion IsPart words → words_of (join_with_byte 32 (map written words)) ≡ Some (map part_text words)
has_joined words h = begins (join_with_byte 32 (map written words)) ∙ seen_joined words [] h

-- B. A line that has words spells them.

starts_with_white : (b : ℕ) (rest : List ℕ) (words : List (List ℕ)) → is_blank b ≡ true → Spells rest words → Spells (b ∷ rest) words
starts_with_white b rest words white h = record {
  front = b ∷ h.front;
  spelled = h.spelled;
  front_is = (white, h.front_is);
  words_are = h.words_are;
  line_is = ap (λ l. b ∷ l) h.line_is;
  words_are_texts = h.words_are_texts;
}

-- a word that begins with a part
starts_with_word : (part : Part) (rest : List ℕ) (words : List (List ℕ)) → IsPart part → SpellsWithin rest words → Spells (written part ++ rest) (onto_words (part_text part) words)
starts_with_word part rest words is h = record {
  front = [];
  spelled = record { part = part; parts = h.parts; gap = h.gap } ∷ h.spelled;
  front_is = tt;
  words_are = (is, h.parts_are, h.gap_is, h.last, h.words_are);
  line_is = ap (λ l. written part ++ l) h.line_is ∙ sym (append_assoc (written part) (flat_map written h.parts ++ h.gap) (flat_map word_written h.spelled))
      ∙ ap (λ l. l ++ flat_map word_written h.spelled) (sym (append_assoc (written part) (flat_map written h.parts) h.gap));
  words_are_texts = ap (onto_words (part_text part)) h.words_are_texts;
}

-- one part more of a word
more_word : (part : Part) (rest : List ℕ) (words : List (List ℕ)) → IsPart part → SpellsWithin rest words → SpellsWithin (written part ++ rest) (onto_words (part_text part) words)
more_word part rest words is h = record {
  parts = part ∷ h.parts;
  gap = h.gap;
  spelled = h.spelled;
  parts_are = (is, h.parts_are);
  gap_is = h.gap_is;
  last = h.last;
  words_are = h.words_are;
  line_is = ap (λ l. written part ++ l) h.line_is ∙ sym (append_assoc (written part) (flat_map written h.parts ++ h.gap) (flat_map word_written h.spelled))
      ∙ ap (λ l. l ++ flat_map word_written h.spelled) (sym (append_assoc (written part) (flat_map written h.parts) h.gap));
  words_are_texts = ap (onto_words (part_text part)) h.words_are_texts;
}

-- white space ends a word
ended_word : (b : ℕ) (rest : List ℕ) (words : List (List ℕ)) → is_blank b ≡ true → Spells rest words → SpellsWithin (b ∷ rest) ([] ∷ words)
ended_word b rest words white h = record {
  parts = [];
  gap = b ∷ h.front;
  spelled = h.spelled;
  parts_are = tt;
  gap_is = (white, h.front_is);
  last = λ e. absurd (omega (arith, e));
  words_are = h.words_are;
  line_is = ap (λ l. b ∷ l) h.line_is;
  words_are_texts = ap (λ ws. [] ∷ ws) h.words_are_texts;
}

end_word : SpellsWithin [] ([] ∷ [])
end_word = record { parts = []; gap = []; spelled = []; parts_are = tt; gap_is = tt; last = λ e. refl; words_are = tt; line_is = refl; words_are_texts = refl }

no_words : Spells [] []
no_words = record { front = []; spelled = []; front_is = tt; words_are = tt; line_is = refl; words_are_texts = refl }

-- a quote ends
ended_quote : (b : ℕ) (rest : List ℕ) (words : List (List ℕ)) → is_quote b ≡ true → SpellsWithin rest words → SpellsQuoted (b ∷ rest) words
ended_quote b rest words quote h = record {
  bytes = [];
  rest = rest;
  inner = words;
  bytes_are = tt;
  line_is = ap (λ c. c ∷ rest) (eqb-true b 39 quote);
  within = h;
  words_are_texts = h.words_are_texts ∙ sym (ap (onto_words []) h.words_are_texts);
}

onto_first_word : (b : ℕ) (bytes rest : List ℕ) (words : List (List ℕ)) → SpellsWithin rest words → onto_word b (onto_words bytes words) ≡ onto_words (b ∷ bytes) words
onto_first_word b bytes rest words h = ap (λ ws. onto_word b (onto_words bytes ws)) h.words_are_texts ∙ sym (ap (onto_words (b ∷ bytes)) h.words_are_texts)

onto_one_word : (b : ℕ) (rest : List ℕ) (words : List (List ℕ)) → SpellsWithin rest words → onto_words (b ∷ []) words ≡ onto_word b words
onto_one_word b rest words h = ap (onto_words (b ∷ [])) h.words_are_texts ∙ sym (ap (onto_word b) h.words_are_texts)

-- one byte more of a quote
more_quote : (b : ℕ) (rest : List ℕ) (words : List (List ℕ)) → is_quote b ≡ false → SpellsQuoted rest words → SpellsQuoted (b ∷ rest) (onto_word b words)
more_quote b rest words quote h = record {
  bytes = b ∷ h.bytes;
  rest = h.rest;
  inner = h.inner;
  bytes_are = (quote, h.bytes_are);
  line_is = ap (λ l. b ∷ l) h.line_is;
  within = h.within;
  words_are_texts = ap (onto_word b) h.words_are_texts ∙ onto_first_word b h.bytes h.rest h.inner h.within;
}

-- a quote begins
quote_line : (b : ℕ) (rest : List ℕ) (words : List (List ℕ)) → is_quote b ≡ true → (h : SpellsQuoted rest words) → b ∷ rest ≡ written (quoted h.bytes) ++ h.rest
quote_line b rest words quote h = ap (λ c. c ∷ rest) (eqb-true b 39 quote) ∙ ap (λ l. 39 ∷ l) (h.line_is ∙ sym (append_assoc h.bytes (39 ∷ []) h.rest))

starts_with_quote : (b : ℕ) (rest : List ℕ) (words : List (List ℕ)) → is_quote b ≡ true → SpellsQuoted rest words → Spells (b ∷ rest) words
starts_with_quote b rest words quote h = rw (quote_line b rest words quote h, h.words_are_texts) (starts_with_word (quoted h.bytes) h.rest h.inner h.bytes_are h.within)

within_quote : (b : ℕ) (rest : List ℕ) (words : List (List ℕ)) → is_quote b ≡ true → SpellsQuoted rest words → SpellsWithin (b ∷ rest) words
within_quote b rest words quote h = rw (quote_line b rest words quote h, h.words_are_texts) (more_word (quoted h.bytes) h.rest h.inner h.bytes_are h.within)

abbrev SpellsAt : Place → List ℕ → List (List ℕ) → Type 0
SpellsAt Between line words = Spells line words
SpellsAt Within line words = SpellsWithin line words
SpellsAt Quoted line words = SpellsQuoted line words

of_some : {A : Type 0} → A → Option A → A
of_some a None = a
of_some a (Some x) = x

mapped : {A B : Type 0} (f : A → B) (o : Option A) (y : B) → option_map f o ≡ Some y → (x : A) × (o ≡ Some x) × (f x ≡ y)
unfolding of_some
mapped f None y h = absurd (none-some y h)
mapped f (Some x) y h = (x, refl, ap (of_some y) h)

-- one byte of the line, where the rest spells its words
spells_more : (place : Place) (b : ℕ) (rest : List ℕ) (words : List (List ℕ)) → ((p : Place) (ws : List (List ℕ)) → words_at p rest ≡ Some ws → SpellsAt p rest ws)
    → words_at place (b ∷ rest) ≡ Some words → SpellsAt place (b ∷ rest) words
spells_more Between b rest words ih h = by_tests (is_blank b) (is_quote b) refl refl h
  where
    by_tests : (w q : Bool) → is_blank b ≡ w → is_quote b ≡ q
        → cond w (words_at Between rest) (cond q (words_at Quoted rest) (option_map (onto_word b) (words_at Within rest))) ≡ Some words → Spells (b ∷ rest) words
    by_tests true q w_is q_is h = starts_with_white b rest words w_is (ih Between words h)
    by_tests false true w_is q_is h = starts_with_quote b rest words q_is (ih Quoted words h)
    by_tests false false w_is q_is h =
        let m = mapped (onto_word b) (words_at Within rest) words h in
        let s = ih Within m.0 m.1 in
        subst (λ (ws : List (List ℕ)). Spells (b ∷ rest) ws) (onto_one_word b rest m.0 s ∙ m.2) (starts_with_word (bare (b ∷ [])) rest m.0 (omega arith, ((w_is, q_is), tt)) s)
spells_more Within b rest words ih h = by_tests (is_blank b) (is_quote b) refl refl h
  where
    by_tests : (w q : Bool) → is_blank b ≡ w → is_quote b ≡ q
        → cond w (option_map (λ words. [] ∷ words) (words_at Between rest)) (cond q (words_at Quoted rest) (option_map (onto_word b) (words_at Within rest)))
        ≡ Some words → SpellsWithin (b ∷ rest) words
    by_tests true q w_is q_is h =
        let m = mapped (λ (words : List (List ℕ)). [] ∷ words) (words_at Between rest) words h in
        subst (λ (ws : List (List ℕ)). SpellsWithin (b ∷ rest) ws) m.2 (ended_word b rest m.0 w_is (ih Between m.0 m.1))
    by_tests false true w_is q_is h = within_quote b rest words q_is (ih Quoted words h)
    by_tests false false w_is q_is h =
        let m = mapped (onto_word b) (words_at Within rest) words h in
        let s = ih Within m.0 m.1 in
        subst (λ (ws : List (List ℕ)). SpellsWithin (b ∷ rest) ws) (onto_one_word b rest m.0 s ∙ m.2) (more_word (bare (b ∷ [])) rest m.0 (omega arith, ((w_is, q_is), tt)) s)
spells_more Quoted b rest words ih h = by_tests (is_quote b) refl h
  where
    by_tests : (q : Bool) → is_quote b ≡ q → cond q (words_at Within rest) (option_map (onto_word b) (words_at Quoted rest)) ≡ Some words → SpellsQuoted (b ∷ rest) words
    by_tests true q_is h = ended_quote b rest words q_is (ih Within words h)
    by_tests false q_is h =
        let m = mapped (onto_word b) (words_at Quoted rest) words h in
        subst (λ (ws : List (List ℕ)). SpellsQuoted (b ∷ rest) ws) m.2 (more_quote b rest m.0 q_is (ih Quoted m.0 m.1))

spells_nothing : (place : Place) (words : List (List ℕ)) → words_at place [] ≡ Some words → SpellsAt place [] words
unfolding of_some
spells_nothing Between words h = subst (λ (ws : List (List ℕ)). Spells [] ws) (ap (of_some words) h) no_words
spells_nothing Within words h = subst (λ (ws : List (List ℕ)). SpellsWithin [] ws) (ap (of_some words) h) end_word
spells_nothing Quoted words h = absurd (none-some words h)

spells_at : (place : Place) (line : List ℕ) (words : List (List ℕ)) → words_at place line ≡ Some words → SpellsAt place line words
spells_at place [] words h = spells_nothing place words h
spells_at place (b ∷ rest) words h = spells_more place b rest words (λ p ws e. spells_at p rest ws e) h

pub spells_had : (line : List ℕ) (words : List (List ℕ)) → words_of line ≡ Some words → Spells line words
spells_had line words h = spells_at Between line words h
