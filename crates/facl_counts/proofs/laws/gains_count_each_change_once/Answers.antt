use Rattle.facl_counts.proofs.SilentGains.{all_counted, user_counted}
use Rattle.facl_counts.proofs.laws.gains_count_each_change_once.Goals as goal

pub returns-clause-user : goal.returns-clause-user
returns-clause-user c = λ V along loaded now name bytes. user_counted V along loaded now bytes name

pub returns-clause-all : goal.returns-clause-all
returns-clause-all c = all_counted
