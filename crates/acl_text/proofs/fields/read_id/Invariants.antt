use Rattle.std.proofs.Common.{◌≡◌, ◌<◌, drop}
use Rattle.std.specs.List.{list_all}
use Rattle.std.specs.Char.{is_ascii_digit}
use Rattle.acl_entry.specs.Ids.{nobody}
use Rattle.acl_text.specs.Ids.{number_after}
use Rattle.acl_text.proofs.fields.read_id.Given as goal

abbrev pub invariant-loop-b : goal.invariant-loop-b
invariant-loop-b l = record {
  small : l.number < nobody;
  digits : list_all is_ascii_digit (drop l.b-index l.word) ≡ list_all is_ascii_digit l.word;
  value : number_after l.number (drop l.b-index l.word) ≡ number_after 0 l.word;
}
