use Rattle.std.proofs.Common.{arith, ◌≡◌, ◌++◌, ◌∷◌, [], ℕ, List, length, take, ap, sym, subst, ◌∙◌}
use Rattle.std.proofs.lemmas.Grind.{common_steps}
use Rattle.std.specs.List.{flat_map}
use Rattle.acl_entry.specs.Perms.{text}
use Rattle.facl_answers.specs.ChangesText.{after_comma, change_line}
use Rattle.facl_output.proofs.Parts.{two_parts, begins_itself, begins_later, begins_more}
use Rattle.facl_answers.proofs.change_lines.push_line.Goals as goal

-- the parts of a line of `changes`
module _ (user word request more path a b c d e f g h k l : List ℕ) where
  line_of_parts : b ≡ a ++ user → c ≡ b ++ 32 ∷ [] → d ≡ c ++ word → e ≡ d ++ 32 ∷ [] → f ≡ e ++ request → g ≡ f ++ more → h ≡ g ++ 32 ∷ [] → k ≡ h ++ path → l ≡ k ++ 10 ∷ []
      → l ≡ a ++ (user ++ 32 ∷ (word ++ 32 ∷ (request ++ (more ++ 32 ∷ (path ++ 10 ∷ [])))))
  line_of_parts one two three four five six seven eight nine =
      let last : l ≡ h ++ (path ++ 10 ∷ []) = two_parts h path (10 ∷ []) k l eight nine in
      let after_more : l ≡ g ++ 32 ∷ (path ++ 10 ∷ []) = two_parts g (32 ∷ []) (path ++ 10 ∷ []) h l seven last in
      let from_more : l ≡ f ++ (more ++ 32 ∷ (path ++ 10 ∷ [])) = two_parts f more (32 ∷ (path ++ 10 ∷ [])) g l six after_more in
      let requests : l ≡ e ++ (request ++ (more ++ 32 ∷ (path ++ 10 ∷ []))) = two_parts e request (more ++ 32 ∷ (path ++ 10 ∷ [])) f l five from_more in
      let after_word : l ≡ d ++ 32 ∷ (request ++ (more ++ 32 ∷ (path ++ 10 ∷ []))) = two_parts d (32 ∷ []) (request ++ (more ++ 32 ∷ (path ++ 10 ∷ []))) e l four requests in
      let from_word : l ≡ c ++ (word ++ 32 ∷ (request ++ (more ++ 32 ∷ (path ++ 10 ∷ [])))) = two_parts c word (32 ∷ (request ++ (more ++ 32 ∷ (path ++ 10 ∷ [])))) d l three after_word in
      let after_user : l ≡ b ++ 32 ∷ (word ++ 32 ∷ (request ++ (more ++ 32 ∷ (path ++ 10 ∷ [])))) =
      two_parts b (32 ∷ []) (word ++ 32 ∷ (request ++ (more ++ 32 ∷ (path ++ 10 ∷ [])))) c l two from_word in
      two_parts a user (32 ∷ (word ++ 32 ∷ (request ++ (more ++ 32 ∷ (path ++ 10 ∷ []))))) b l one after_user

-- after five parts the text still begins as it did
module _ (u v w x y a b c d e f : List ℕ) where
  after_five : b ≡ a ++ u → c ≡ b ++ v → d ≡ c ++ w → e ≡ d ++ x → f ≡ e ++ y → take (length a) f ≡ a
  after_five one two three four five =
      begins_more a e y f (begins_more a d x e (begins_more a c w d (begins_more a b v c (begins_more a a u b (begins_itself a) one) two) three) four) five

pub returns-in_err-push_more : goal.returns-in_err-push_more
returns-in_err-push_more c =
    let start = c.args.text.now.items in
    let requested = c.extend_from_slice-3.new.self.items in
    let begins_before =
    after_five c.args.user.now (32 ∷ []) c.args.word.now
    (32 ∷ []) c.text.result start c.extend_from_slice.new.self.items c.push.new.self.items c.extend_from_slice-2.new.self.items c.push-2.new.self.items requested
    c.in_ok-extend_from_slice.ensures.items c.in_ok-push.ensures.items c.in_ok-extend_from_slice-2.ensures.items c.in_ok-push-2.ensures.items c.in_ok-extend_from_slice-3.ensures.items in
    let begins = begins_later start requested c.push_more.new.text.items begins_before c.in_err-push_more.ensures in
    grind (arith, common_steps, begins)

pub returns-in_err-push-3 : goal.returns-in_err-push-3
returns-in_err-push-3 c =
    let start = c.args.text.now.items in
    let requested = c.extend_from_slice-3.new.self.items in
    let begins_before =
    after_five c.args.user.now (32 ∷ []) c.args.word.now
    (32 ∷ []) c.text.result start c.extend_from_slice.new.self.items c.push.new.self.items c.extend_from_slice-2.new.self.items c.push-2.new.self.items requested
    c.in_ok-extend_from_slice.ensures.items c.in_ok-push.ensures.items c.in_ok-extend_from_slice-2.ensures.items c.in_ok-push-2.ensures.items c.in_ok-extend_from_slice-3.ensures.items in
    let more = flat_map after_comma c.in-Some.more.now in
    let with_more = begins_more start requested more c.push_more.new.text.items begins_before c.in_ok-push_more.ensures in
    grind (arith, common_steps, with_more)

pub returns-in_err-extend_from_slice-4 : goal.returns-in_err-extend_from_slice-4
returns-in_err-extend_from_slice-4 c =
    let start = c.args.text.now.items in
    let requested = c.extend_from_slice-3.new.self.items in
    let begins_before =
    after_five c.args.user.now (32 ∷ []) c.args.word.now
    (32 ∷ []) c.text.result start c.extend_from_slice.new.self.items c.push.new.self.items c.extend_from_slice-2.new.self.items c.push-2.new.self.items requested
    c.in_ok-extend_from_slice.ensures.items c.in_ok-push.ensures.items c.in_ok-extend_from_slice-2.ensures.items c.in_ok-push-2.ensures.items c.in_ok-extend_from_slice-3.ensures.items in
    let more = flat_map after_comma c.in-Some.more.now in
    let with_more = begins_more start requested more c.push_more.new.text.items begins_before c.in_ok-push_more.ensures in
    let spaced = begins_more start c.push_more.new.text.items (32 ∷ []) c.push-3.new.self.items with_more c.in_ok-push-3.ensures.items in
    grind (arith, common_steps, spaced)

pub returns-in_err-push-4 : goal.returns-in_err-push-4
returns-in_err-push-4 c =
    let start = c.args.text.now.items in
    let requested = c.extend_from_slice-3.new.self.items in
    let begins_before =
    after_five c.args.user.now (32 ∷ []) c.args.word.now
    (32 ∷ []) c.text.result start c.extend_from_slice.new.self.items c.push.new.self.items c.extend_from_slice-2.new.self.items c.push-2.new.self.items requested
    c.in_ok-extend_from_slice.ensures.items c.in_ok-push.ensures.items c.in_ok-extend_from_slice-2.ensures.items c.in_ok-push-2.ensures.items c.in_ok-extend_from_slice-3.ensures.items in
    let more = flat_map after_comma c.in-Some.more.now in
    let with_more = begins_more start requested more c.push_more.new.text.items begins_before c.in_ok-push_more.ensures in
    let spaced = begins_more start c.push_more.new.text.items (32 ∷ []) c.push-3.new.self.items with_more c.in_ok-push-3.ensures.items in
    let with_path = begins_more start c.push-3.new.self.items c.args.path.now c.extend_from_slice-4.new.self.items spaced c.in_ok-extend_from_slice-4.ensures.items in
    grind (arith, common_steps, with_path)

pub returns : goal.returns
returns c =
    let user = c.args.user.now in
    let word = c.args.word.now in
    let path = c.args.path.now in
    subst (λ requests. c.push-4.new.self.items ≡ c.args.text.now.items ++ change_line path user word requests) (sym c.in-Some.ensures.cases.0)
    (line_of_parts user word (text c.in-Some.request.now) (flat_map after_comma c.in-Some.more.now) path
    c.args.text.now.items c.extend_from_slice.new.self.items c.push.new.self.items c.extend_from_slice-2.new.self.items c.push-2.new.self.items
    c.extend_from_slice-3.new.self.items c.push_more.new.text.items c.push-3.new.self.items c.extend_from_slice-4.new.self.items c.push-4.new.self.items
    c.in_ok-extend_from_slice.ensures.items c.in_ok-push.ensures.items c.in_ok-extend_from_slice-2.ensures.items c.in_ok-push-2.ensures.items
    (c.in_ok-extend_from_slice-3.ensures.items ∙ ap (λ request. c.push-2.new.self.items ++ request) c.text.ensures)
    c.in_ok-push_more.ensures c.in_ok-push-3.ensures.items c.in_ok-extend_from_slice-4.ensures.items c.in_ok-push-4.ensures.items)
