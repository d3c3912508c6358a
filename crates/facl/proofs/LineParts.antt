-- A line is refused for its first part at fault.
use Rattle.std.proofs.Common.{◌≡◌, ◌≤◌, ◌+◌, ◌-◌, ℕ, Bool, true, false, List, [], ◌∷◌, Option, Some, None, Result, Ok, Err, if◌then◌else◌, refl, sym, ap, subst, ◌∙◌, true≢false, arith}
use Rattle.std.specs.Prelude.{◌==◌, IsErr, ok_or}
use Rattle.std.specs.Str.{is_utf8}
use Rattle.acl_names.proofs.Basics.{some_is_not_none, ok_is_not_err, ok_or_err}
use Rattle.facl.proofs.ToolParts.{first_fault_refuses}
use Rattle.facl.proofs.FirstPart.{accepted, refused_at}
use Rattle.facl.proofs.Outcomes.{ok_eq, err_eq}
use Rattle.facl.proofs.Parts as parts
use Rattle.facl_output.specs.declared.fault.LineFault.{LineFault}
use Rattle.facl_output.specs.Faults.{line_fault_of_split}
use Rattle.facl_output.specs.declared.fault.LineFault.TheVariants as faults
use Rattle.facl_script.specs.Units.{ScriptUnit, UnitText, none, whole, too_long, unended}
use Rattle.facl_script.specs.Words.{words_of, has_no_words}
use Rattle.facl_script.specs.declared.words.SplitFault.TheVariants as splits
use Rattle.facl_script.specs.Forms.{Text}
use Rattle.facl.specs.ToolParts as requests
use Rattle.facl.specs.ToolParts.{Part, in_first_text, in_second_text, in_third_text, in_two_texts, in_operand, in_user, in_file, in_command}
use Rattle.facl.specs.FirstPart.{IsNotAfter, IsFirst, IsRefusedForFirst}
use Rattle.facl_tools.specs.Replies.{Reply}
use Rattle.facl.specs.ToolLines as tools
use Rattle.acl_rights.specs.Deciders.{Judging}
use Rattle.facl.specs.Tools.{tool_named, tool_line}
use Rattle.facl.specs.declared.tools.Tool.{Tool}
use Rattle.facl.specs.declared.tools.ToolLine.{ToolLine}
use Rattle.facl.specs.LineParts.{LinePart, in_length, in_bytes, in_quotes, in_tool, in_text_end, in_text_lines, in_words, in_request, rank, place, HasWords}
use Rattle.facl.specs.LineParts.{IsOfTool, line_read, IsRequestAtFault, IsAtFault, outcome, name_in, IsAnsweredByFirst}
use Rattle.acl_rights.specs.declared.indexed.States.{States}
use Rattle.facl.specs.Counted.{answered, answer_of, answer_of_words}
use Rattle.facl.specs.Units.{is_silent, reply, text_of, tool_reply, words_of_line}
use Rattle.facl.proofs.HasWords.{has_a_word}
use Rattle.facl.proofs.ToolLines.{tool_line_is}
use Rattle.facl.proofs.Refusing.{not_silent}
use Rattle.acl_text.specs.Results.{◌>>=◌, map_err}

-- ---- parts by their ranks

abbrev named : ℕ → ℕ → LinePart
named r n =
    if r == 0 then in_length else if r == 1 then in_bytes else if r == 2 then in_quotes else if r == 3 then in_tool
    else if r == 4 then in_text_end else if r == 5 then in_text_lines else if r == 6 then in_words else in_request (parts.named (r - 7) n)

is_named : (p : LinePart) → p ≡ named (rank p) (place p)
is_named in_length = refl
is_named in_bytes = refl
is_named in_quotes = refl
is_named in_tool = refl
is_named in_text_end = refl
is_named in_text_lines = refl
is_named in_words = refl
is_named (in_request in_first_text) = refl
is_named (in_request in_second_text) = refl
is_named (in_request in_third_text) = refl
is_named (in_request in_two_texts) = refl
is_named (in_request (in_operand n)) = refl
is_named (in_request in_user) = refl
is_named (in_request (in_file n)) = refl
is_named (in_request in_command) = refl

-- ---- what is known of one line is known of all that are it

not_true : {A : Type 0} (o : Option A) (k : A → Bool) (a a' : A) → o ≡ Some a → o ≡ Some a' → k a ≡ true → k a' ≡ false → ⊥
not_true o k a a' h h' t f = true≢false (sym t ∙ ap k (some_eq o a a' h h') ∙ f)
  where
    some_eq : {B : Type 0} (o : Option B) (b c : B) → o ≡ Some b → o ≡ Some c → b ≡ c
    some_eq o b c h k = cc

not_none : {A B : Type 0} (o : Option A) (k : A → Option B) (a a' : A) (b : B) → o ≡ Some a → o ≡ Some a' → k a ≡ Some b → k a' ≡ None → ⊥
not_none o k a a' b h h' s n = cc

one_name : {A B : Type 0} (o : Option A) (k : A → Option (List B)) (a a' : A) (n n' : B) (w w' : List B) → o ≡ Some a → o ≡ Some a' → k a ≡ Some (n ∷ w) → k a' ≡ Some (n' ∷ w') → n ≡ n'
one_name o k a a' n n' w w' h h' s s' = cc

one_rest : {A B : Type 0} (o : Option A) (k : A → Option (List B)) (a a' : A) (n n' : B) (w w' : List B) → o ≡ Some a → o ≡ Some a' → k a ≡ Some (n ∷ w) → k a' ≡ Some (n' ∷ w') → w ≡ w'
one_rest o k a a' n n' w w' h h' s s' = cc

one_value : {A B : Type 0} (t : A → Option B) (a a' : A) (b b' : B) → a ≡ a' → t a ≡ Some b → t a' ≡ Some b' → b ≡ b'
one_value t a a' b b' h s s' = cc

no_value : {A B : Type 0} (t : A → Option B) (a a' : A) (b : B) → a ≡ a' → t a ≡ Some b → t a' ≡ None → ⊥
no_value t a a' b h s n = cc

one_value_of_two : {A B C : Type 0} (t : A → B → Option C) (a a' : A) (b b' : B) (c c' : C) → a ≡ a' → b ≡ b' → t a b ≡ Some c → t a' b' ≡ Some c' → c ≡ c'
one_value_of_two t a a' b b' c c' h g s s' = cc

no_value_of_two : {A B C : Type 0} (t : A → B → Option C) (a a' : A) (b b' : B) (c : C) → a ≡ a' → b ≡ b' → t a b ≡ Some c → t a' b' ≡ None → ⊥
no_value_of_two t a a' b b' c h g s n = cc

module _ (u : ScriptUnit) where
  names_one : (n n' : Text) (w w' : List Text) → HasWords u n w → HasWords u n' w' → n ≡ n'
  names_one n n' w w' a b = one_name u.line words_of a.line b.line n n' w w' a.is_line b.is_line a.split b.split

  words_one : (n n' : Text) (w w' : List Text) → HasWords u n w → HasWords u n' w' → w ≡ w'
  words_one n n' w w' a b = one_rest u.line words_of a.line b.line n n' w w' a.is_line b.is_line a.split b.split

  tool_one : (t t' : Tool) (w w' : List Text) → IsOfTool u t w → IsOfTool u t' w' → t ≡ t'
  tool_one t t' w w' a b = one_value tool_named a.name b.name t t' (names_one a.name b.name w w' a.has b.has) a.known b.known

  same_words : (t t' : Tool) (w w' : List Text) → IsOfTool u t w → IsOfTool u t' w' → w ≡ w'
  same_words t t' w w' a b = words_one a.name b.name w w' a.has b.has

-- ---- one part after another

at_zero : (m n : ℕ) → m ≡ 0 → m ≤ n
at_zero m n h = omega arith

seven_more : (m n : ℕ) → m ≤ n → 7 + m ≤ 7 + n
seven_more m n h = omega arith

seven_less : (m n : ℕ) → 7 + m ≡ 7 + n → m ≡ n
seven_less m n h = omega arith

abbrev is_unended : UnitText → Bool
is_unended unended = true
is_unended text = false

module _ (judge : Judging) (w : States) (u : ScriptUnit) where
  abbrev W : LinePart → LineFault → Type 0
  W = IsAtFault w.now u

  abbrev Refused : Result Reply LineFault → Type 0
  Refused r = IsRefusedForFirst rank place W r

  abbrev From : ℕ → Type 0
  From n = (q : LinePart) (g : LineFault) → IsAtFault w.now u q g → n ≤ rank q

  abbrev Never : LinePart → Type 0
  Never p = (g : LineFault) → IsAtFault w.now u p g → ⊥

  from_1 : Never in_length → From 1
  from_1 never in_length g h = absurd (never g h)
  from_1 never q g h = omega arith

  from_2 : From 1 → Never in_bytes → From 2
  from_2 c never in_bytes g h = absurd (never g h)
  from_2 c never q g h = let k = c q g h in omega arith

  from_3 : From 2 → Never in_quotes → From 3
  from_3 c never in_quotes g h = absurd (never g h)
  from_3 c never q g h = let k = c q g h in omega arith

  from_4 : From 3 → Never in_tool → From 4
  from_4 c never in_tool g h = absurd (never g h)
  from_4 c never q g h = let k = c q g h in omega arith

  from_5 : From 4 → Never in_text_end → From 5
  from_5 c never in_text_end g h = absurd (never g h)
  from_5 c never q g h = let k = c q g h in omega arith

  from_6 : From 5 → Never in_text_lines → From 6
  from_6 c never in_text_lines g h = absurd (never g h)
  from_6 c never q g h = let k = c q g h in omega arith

  from_7 : From 6 → Never in_words → From 7
  from_7 c never in_words g h = absurd (never g h)
  from_7 c never q g h = let k = c q g h in omega arith

  -- a part is at fault that has one fault
  refused_in : (r : Result Reply LineFault) (p : LinePart) (f : LineFault) → place p ≡ 0 → r ≡ Err f → W p f → ((g : LineFault) → W p g → g ≡ f) → From (rank p) → Refused r
  refused_in r p f placed is here only clear =
      refused_at rank place named is_named W r p f is here (λ g h. sym (only g h))
      (λ q g h. record { by_rank = clear q g h; by_place = λ _. at_zero (place p) (place q) placed })

  -- ---- what the words ask for

  module _ (tool : Tool) (words : List Text) (line : ToolLine) (text : List ℕ) (names : IsOfTool u tool words)
      (asks : line_read tool words ≡ Some line) (is_text : text_of u.text ≡ Ok text) (clear : From 7) where
    abbrev law : IsRefusedForFirst requests.rank requests.place (requests.IsAtFault w.now line text) (tools.answered judge w.loaded w.now line text)
    law = first_fault_refuses judge w.loaded w.now line text

    -- the request at fault is this one
    moved : (part : Part) (g : LineFault) → IsRequestAtFault w.now u part g → requests.IsAtFault w.now line text part g
    moved part g h =
        let same_line : h.line ≡ line =
        one_value_of_two line_read h.tool tool h.words words h.line line (tool_one u h.tool tool h.words words h.names names) (same_words u h.tool tool h.words words h.names names) h.asks asks in
        let same_text : h.text ≡ text = ok_eq (text_of u.text) h.text text h.is_text is_text in
        subst (λ t. requests.IsAtFault w.now line t part g) same_text (subst (λ l. requests.IsAtFault w.now l h.text part g) same_line h.at_fault)

    here : (part : Part) (g : LineFault) → requests.IsAtFault w.now line text part g → IsRequestAtFault w.now u part g
    here part g h = record { tool = tool; words = words; line = line; text = text; names = names; asks = asks; is_text = is_text; at_fault = h }

    ok_is_no_err : (r : Result Reply LineFault) (reply : Reply) → r ≡ Ok reply → IsErr r → ⊥
    ok_is_no_err r reply is h = absurd (by r is h)
      where
        by : (r : Result Reply LineFault) → r ≡ Ok reply → IsErr r → ⊥
        by (Ok other) is h = true≢false (sym h)
        by (Err f) is h = ok_is_not_err reply f (sym is)

    none_at_fault : (reply : Reply) → tools.answered judge w.loaded w.now line text ≡ Ok reply → (q : LinePart) (g : LineFault) → IsAtFault w.now u q g → ⊥
    none_at_fault reply is (in_request part) g h = ok_is_no_err (tools.answered judge w.loaded w.now line text) reply is (law.refused part g (moved part g h))
    none_at_fault reply is q g h = let k = clear q g h in omega arith

    not_after : (f : LineFault) (first : IsFirst requests.rank requests.place (requests.IsAtFault w.now line text) f)
        → (q : LinePart) (g : LineFault) → IsAtFault w.now u q g → IsNotAfter rank place (in_request first.part) q
    not_after f first (in_request part) g h =
        let order : IsNotAfter requests.rank requests.place first.part part = first.first part g (moved part g h) in
        record {
          by_rank = seven_more (requests.rank first.part) (requests.rank part) order.by_rank;
          by_place = λ same. order.by_place (seven_less (requests.rank part) (requests.rank first.part) same);
        }
    not_after f first q g h = let k = clear q g h in absurd (omega arith)

    request_refused : Refused (tools.answered judge w.loaded w.now line text)
    request_refused = by (tools.answered judge w.loaded w.now line text) refl
      where
        by : (r : Result Reply LineFault) → tools.answered judge w.loaded w.now line text ≡ r → Refused r
        by (Ok reply) is = accepted rank place named is_named W (Ok reply) reply refl (none_at_fault reply is)
        by (Err f) is =
            let reported = law.reported f in
            let first : IsFirst requests.rank requests.place (requests.IsAtFault w.now line text) f = reported.0 is in
            refused_at rank place named is_named W (Err f) (in_request first.part) f refl (here first.part f first.at_fault)
            (λ g h.
            let also = law.reported g in
            err_eq (tools.answered judge w.loaded w.now line text) f g is (also.1 (record { part = first.part; at_fault = moved first.part g h; first = first.first })))
            (not_after f first)

  -- ---- the words after a tool's name

  module _ (tool : Tool) (words : List Text) (text : List ℕ) (names : IsOfTool u tool words) (is_text : text_of u.text ≡ Ok text) (clear : From 6) where
    has_line : (line : ToolLine) → line_read tool words ≡ Some line → Never in_words
    has_line line asks g h =
        let usage = h.1 in
        no_value_of_two line_read tool usage.tool words usage.words line
        (tool_one u tool usage.tool words usage.words names usage.names) (same_words u tool usage.tool words usage.words names usage.names) asks usage.no_line

    words_refused : Refused (tool_line judge w.loaded w.now tool words text)
    words_refused = subst Refused (tool_line_is judge w.loaded w.now tool words text) (by (line_read tool words) refl)
      where
        by : (o : Option ToolLine) → line_read tool words ≡ o → Refused (ok_or o faults.Usage >>= λ line. tools.answered judge w.loaded w.now line text)
        by None no_line =
            refused_in (Err faults.Usage) in_words faults.Usage refl refl (refl, record { tool = tool; words = words; names = names; no_line = no_line }) (λ g h. h.0) clear
        by (Some line) asks = request_refused tool words line text names asks is_text (from_7 clear (has_line line asks))

  -- ---- the text

  module _ (tool : Tool) (words : List Text) (names : IsOfTool u tool words) (clear : From 4) where
    not_unended : (text : List ℕ) → text_of u.text ≡ Ok text → Never in_text_end
    not_unended text is g h = ok_or_err (text_of u.text) text faults.UnendedText is (ap text_of h.1)

    not_too_long : (text : List ℕ) → text_of u.text ≡ Ok text → Never in_text_lines
    not_too_long text is g h = ok_or_err (text_of u.text) text faults.TextLineTooLong is (ap text_of h.1)

    with_text : (text : List ℕ) → text_of u.text ≡ Ok text → Refused (tool_line judge w.loaded w.now tool words text)
    with_text text is = words_refused tool words text names is (from_6 (from_5 clear (not_unended text is)) (not_too_long text is))

    unended_or_long : u.text ≡ too_long → Never in_text_end
    unended_or_long long g h = true≢false (ap is_unended (sym h.1 ∙ long))

    text_refused : Refused (tool_reply judge w u.text words tool)
    text_refused = by u.text refl
      where
        by : (t : UnitText) → u.text ≡ t → Refused (text_of t >>= λ content. tool_line judge w.loaded w.now tool words content)
        by none is = with_text [] (ap text_of is)
        by (whole text) is = with_text text (ap text_of is)
        by unended is = refused_in (Err faults.UnendedText) in_text_end faults.UnendedText refl refl (refl, is) (λ g h. h.0) clear
        by too_long is =
            refused_in (Err faults.TextLineTooLong) in_text_lines faults.TextLineTooLong refl refl (refl, is) (λ g h. h.0) (from_5 clear (unended_or_long is))

  -- ---- the line

  module _ (line : List ℕ) (is_line : u.line ≡ Some line) where
    not_long : Never in_length
    not_long g h = some_is_not_none u.line line is_line h.1

    good_bytes : is_utf8 line ≡ true → Never in_bytes
    good_bytes good g h = let bad = h.1 in not_true u.line is_utf8 line bad.line is_line bad.is_line good bad.bad

    no_open_quote : (words : List Text) → words_of line ≡ Some words → Never in_quotes
    no_open_quote words is g h = let quote = h.1 in not_none u.line words_of line quote.line words is_line quote.is_line is quote.open_quote

    module _ (name : Text) (words : List Text) (is_split : words_of line ≡ Some (name ∷ words)) (clear : From 3) where
      abbrev has : HasWords u name words
      has = record { line = line; is_line = is_line; split = is_split }

      known : (tool : Tool) → tool_named name ≡ Some tool → Never in_tool
      known tool is g h =
          let other = h.1 in
          no_value tool_named name other.name tool (names_one u name other.name words other.words (record { line = line; is_line = is_line; split = is_split }) other.has) is other.unknown

      tool_refused : Refused (reply judge w u.text (name ∷ words))
      tool_refused = by (tool_named name) refl
        where
          by : (t : Option Tool) → tool_named name ≡ t → Refused (ok_or t faults.UnknownTool >>= tool_reply judge w u.text words)
          by None unknown =
              refused_in (Err faults.UnknownTool) in_tool faults.UnknownTool refl refl
              (refl, record { name = name; words = words; has = record { line = line; is_line = is_line; split = is_split }; unknown = unknown }) (λ g h. h.0) clear
          by (Some tool) is =
              text_refused tool words (record { name = name; has = record { line = line; is_line = is_line; split = is_split }; known = is })
              (from_4 clear (known tool is))

    split_refused : has_no_words line ≡ false → (o : Option (List Text)) → words_of line ≡ o → is_utf8 line ≡ true
        → Refused (map_err line_fault_of_split (ok_or o splits.OpenQuote) >>= reply judge w u.text)
    split_refused some None open_quote good =
        refused_in (Err faults.OpenQuote) in_quotes faults.OpenQuote refl refl (refl, record { line = line; is_line = is_line; open_quote = open_quote }) (λ g h. h.0)
        (from_2 (from_1 not_long) (good_bytes good))
    split_refused some (Some []) is good = absurd (has_a_word line some is)
    split_refused some (Some (name ∷ words)) is good =
        tool_refused name words is (from_3 (from_2 (from_1 not_long) (good_bytes good)) (no_open_quote (name ∷ words) is))

    line_refused : has_no_words line ≡ false → (blank good : Bool) → has_no_words line ≡ blank → is_utf8 line ≡ good
        → Refused (map_err line_fault_of_split (if blank then Ok [] else (if good then ok_or (words_of line) splits.OpenQuote else Err splits.NotUtf8)) >>= reply judge w u.text)
    line_refused some true good is utf8 = absurd (true≢false (sym is ∙ some))
    line_refused some false true is good = split_refused some (words_of line) refl good
    line_refused some false false is bad =
        refused_in (Err faults.NotUtf8) in_bytes faults.NotUtf8 refl refl (refl, record { line = line; is_line = is_line; bad = bad }) (λ g h. h.0) (from_1 not_long)

  unit_refused : is_silent u.line ≡ false → Refused (outcome judge w u)
  unit_refused some = by u.line refl
    where
      by : (o : Option (List ℕ)) → u.line ≡ o → Refused (words_of_line o >>= reply judge w u.text)
      by None is =
          refused_in (Err faults.LineTooLong) in_length faults.LineTooLong refl refl (refl, is) (λ g h. h.0) (λ q g h. at_zero 0 (rank q) refl)
      by (Some line) is = line_refused line is (sym (ap is_silent is) ∙ some) (has_no_words line) (is_utf8 line) refl refl

  unit_answered : is_silent u.line ≡ false → answered judge false u w ≡ answer_of u.number (name_in (words_of_line u.line)) w (outcome judge w u)
  unit_answered some = not_silent judge u false w some ∙ by (words_of_line u.line)
    where
      by : (r : Result (List Text) LineFault) → answer_of_words judge u w r ≡ answer_of u.number (name_in r) w (r >>= reply judge w u.text)
      by (Ok words) = refl
      by (Err fault) = refl

  pub answered_by_first : is_silent u.line ≡ false → IsAnsweredByFirst judge w u
  answered_by_first some = record { answer = unit_answered some; first = unit_refused some }
