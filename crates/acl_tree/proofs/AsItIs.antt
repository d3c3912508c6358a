-- A restore of records that contain what their files are.
use Rattle.std.proofs.Common.{◌≡◌, Bool, true, false, cond, ◌||◌, List, [], ◌∷◌, filter, map, Option, Some, None, is_some, Ok, if◌then◌else◌, refl, sym, ap, subst, ◌∙◌, true≢false}
use Rattle.std.specs.Prelude.{option_map, MatchOption}
use Rattle.std.specs.List.{AllByRecursion}
use Rattle.std.specs.Option.{option_or}
use Rattle.std.specs.Ordering.{eq_by_cmp}
use Rattle.std.specs.FinMap.{find}
use Rattle.acl_entry.specs.Lists.{KeyMap}
use Rattle.acl_names.specs.Paths.{path_cmp, PathOf}
use Rattle.acl_names.proofs.Basics.{some_eq}
use Rattle.acl_text.specs.declared.record.DumpRecord.{DumpRecord}
use Rattle.acl_text.specs.Results.{◌>>=◌, unless, map_err}
use Rattle.acl_edit.specs.Nodes.{IsSound}
use Rattle.acl_edit.specs.Edits.{allowed, edit, restore}
use Rattle.acl_edit.specs.declared.node.Kind.{Kind}
use Rattle.acl_edit.specs.declared.node.Kind.TheVariants.{Plain, Directory}
use Rattle.acl_edit.specs.declared.node.Node.{Node}
use Rattle.path_map.specs.Merged.{put_all}
use Rattle.path_map.proofs.Differences.{Leads, leads_all}
use Rattle.path_map.proofs.Edits.{put_edited}
use Rattle.acl_tree.specs.declared.command.Command.TheVariants.{Restore}
use Rattle.acl_tree.specs.Files.{Files}
use Rattle.path_map.specs.Entries.{IsInOrder}
use Rattle.acl_tree.specs.Edits.{and_others, edit_each, edit_all, with_edits, file_fault}
use Rattle.acl_tree.specs.Laws.{Contains, IsAsRecorded}
use Rattle.acl_tree.specs.Loading.{record_at}
use Rattle.acl_tree.specs.Operands.{is_file, first_missing, files_meant}
use Rattle.acl_tree.specs.Restoring.{edit_of, edit_if_some, restore_one, paths_of}
use Rattle.acl_tree.specs.Sound.{ArePlaced, IsSoundTree}
use Rattle.acl_tree.specs.State.{State, with_tree}
use Rattle.acl_tree.specs.Step.{step}
use Rattle.acl_tree.proofs.Selected.{same_path}
use Rattle.acl_tree.specs.declared.fault.TreeFault.TheVariants.{NoSuchFile}

-- ---- one file

own_list : (k : Kind) (o : Option KeyMap) → (k ≡ Plain → o ≡ None) → allowed k false o ≡ Ok o
own_list Plain o h = subst (λ z. allowed Plain false z ≡ Ok z) (sym (h refl)) refl
own_list Directory o h = refl

pub stays : (n : Node) (r : DumpRecord) → IsSound n → Contains r n → edit n (edit_of r) false ≡ Ok n
unfolding restore
stays n r sound contains =
    (λ i. allowed n.kind false (contains.default i) >>= λ d. Ok (record {
      kind = n.kind;
      label = record { owner = contains.owner i; group = contains.group i; acl = contains.access i };
      flags = contains.flags i;
      dacl = d;
    }))
    ∙ ap (λ o. o >>= λ d. Ok (record n { dacl = d })) (own_list n.kind n.dacl sound)

-- ---- the record of a file

module _ (t : Files) (p : PathOf) where
  -- the record of a path, where one of the records has it
  found : (rs : List DumpRecord) → AllByRecursion (IsAsRecorded t) rs → MatchOption (record_at p rs) (is_file false (paths_of rs) p ≡ false) (λ r. (r.path ≡ p) × IsAsRecorded t r)
  found [] all = refl
  found (r ∷ rs) all = by (record_at p rs) (found rs all.1) (eq_by_cmp path_cmp p r.path) refl
    where
      by : (o : Option DumpRecord) → MatchOption o (is_file false (paths_of rs) p ≡ false) (λ r. (r.path ≡ p) × IsAsRecorded t r) → (b : Bool) → eq_by_cmp path_cmp p r.path ≡ b
          → MatchOption (option_or o (if b then Some r else None)) ((b || is_file false (paths_of rs) p) ≡ false) (λ r. (r.path ≡ p) × IsAsRecorded t r)
      by (Some s) rest b is = rest
      by None rest true is = (sym (same_path r.path p is), all.0)
      by None rest false is = rest

module _ (t : Files) (records : List DumpRecord) (all : AllByRecursion (IsAsRecorded t) records) where
  -- a file of a record is left as it is
  one : (e : PathOf × Node) → find path_cmp e.0 t ≡ Some e.1 → IsSound e.1 → is_file false (paths_of records) e.0 ≡ true → restore_one records e.0 e.1 ≡ Ok e.1
  one e leads sound is = by (record_at e.0 records) (found t e.0 records all)
    where
      by : (o : Option DumpRecord) → MatchOption o (is_file false (paths_of records) e.0 ≡ false) (λ r. (r.path ≡ e.0) × IsAsRecorded t r) → edit_if_some (option_map edit_of o) e.1 ≡ Ok e.1
      by None out = absurd (true≢false (sym is ∙ out))
      by (Some r) here =
          let same : here.1.node ≡ e.1 = some_eq here.1.node e.1 (sym here.1.recorded ∙ ap (λ q. find path_cmp q t) here.0 ∙ leads) in
          stays e.1 r sound (subst (λ n. Contains r n) same here.1.contains)

  each : (es : Files) → Leads t es → ArePlaced t es → edit_each (restore_one records) (files_meant false (paths_of records) es) ≡ Ok (files_meant false (paths_of records) es)
  each [] leads placed = refl
  each (e ∷ es) leads placed = by (is_file false (paths_of records) e.0) refl (each es leads.1 placed.1)
    where
      rest : Files
      rest = files_meant false (paths_of records) es

      by : (b : Bool) → is_file false (paths_of records) e.0 ≡ b → edit_each (restore_one records) rest ≡ Ok rest
          → edit_each (restore_one records) (cond b (e ∷ rest) rest) ≡ Ok (cond b (e ∷ rest) rest)
      by true is more = (λ i. and_others e.0 (one e leads.0 placed.0.default is i) (more i))
      by false is more = more

  none_missing : (rs : List DumpRecord) → AllByRecursion (IsAsRecorded t) rs → first_missing (paths_of rs) t ≡ None
  none_missing [] all = refl
  none_missing (r ∷ rs) all = ap (λ o. if is_some o then first_missing (paths_of rs) t else Some r.path) all.0.recorded ∙ none_missing rs all.1

-- ---- files put among themselves

module _ (test : PathOf → Bool) where
  themselves : (es : Files) → map (λ e. (e.0, e.1)) es ≡ es
  themselves [] = refl
  themselves (e ∷ es) = ap (λ l. e ∷ l) (themselves es)

  either : (b : Bool) (n : Node) → cond b n n ≡ n
  either true n = refl
  either false n = refl

  all_same : (es : Files) → map (λ e. (e.0, cond (test e.0) e.1 e.1)) es ≡ es
  all_same [] = refl
  all_same (e ∷ es) = (λ i. (e.0, either (test e.0) e.1 i) ∷ all_same es i)

  put_themselves : (t : Files) → IsInOrder t → put_all (filter (λ e. test e.0) t) t ≡ t
  put_themselves t order = ap (λ es. put_all es t) (sym (themselves (filter (λ e. test e.0) t))) ∙ put_edited test (λ p n. n) t order ∙ all_same t

pub restored_as_is : (records : List DumpRecord) (state : State) → IsSoundTree state.tree → AllByRecursion (IsAsRecorded state.tree.files) records → step state (Restore records) ≡ Ok state
restored_as_is records state sound all =
    let t = state.tree.files in
    let paths = paths_of records in
    ap (λ o. unless (option_map NoSuchFile o) (map_err file_fault (edit_all (restore_one records) false paths state.tree)) >>= with_tree state) (none_missing t records all records all)
    ∙ ap (λ r. unless (option_map NoSuchFile None) (map_err file_fault (r >>= with_edits state.tree)) >>= with_tree state) (each t records all t (leads_all t sound.order) sound.placed)
    ∙ ap (λ (es : Files). let s : State = record state { tree = record state.tree { files = es } } in Ok s) (put_themselves (is_file false paths) t sound.order)
