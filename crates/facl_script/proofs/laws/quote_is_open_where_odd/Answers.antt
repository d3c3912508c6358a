use Rattle.facl_script.proofs.QuoteLemmas.{open_odd, odd_opens}
use Rattle.facl_script.proofs.laws.quote_is_open_where_odd.Goals as goal

pub returns : goal.returns
returns c = λ line. (open_odd line, odd_opens line)
