-- `stepping::take_step` meets its contract.
use Rattle.stepping.proofs.StepLaws.{store_leads, length_leads, send_leads, enter_leads, place_leads, end_leads, store_full, count_full, send_full, refuse_leads, away_leads, back_leads, nowhere_leads, fetch_leads, store_ordered, store_within, send_ordered, send_within, length_within, served}
use mathlib.Core.Path.{ap}
use Rattle.std.specs.Prelude.{is_ok}
use borrow.Author.Rules.{rules}
use Rattle.stepping.proofs.take_step.Goals as goal

pub set_all-requires : goal.set_all-requires
set_all-requires c = (search (rules, store_ordered), search (rules, store_within), search (rules, served))

pub returns-in-Ok : goal.returns-in-Ok
returns-in-Ok c guard r = search (rules, store_leads _ r, ap is_ok c.in-Ok.is)

pub set_length-requires : goal.set_length-requires
set_length-requires c = (search (rules, length_within), search (rules, served))

pub returns-in-Ok-set_length : goal.returns-in-Ok-set_length
returns-in-Ok-set_length c guard r = search (rules, length_leads _ r, ap is_ok c.in-Ok-set_length.is)

pub send_command-n-requires : goal.send_command-n-requires
send_command-n-requires c = (search (rules, send_ordered), search (rules, send_within), search rules)

pub returns-then-n-le255 : goal.returns-then-n-le255
returns-then-n-le255 c guard r = search (rules, send_leads _ r)

pub returns-in-Enter : goal.returns-in-Enter
returns-in-Enter c guard r = search (rules, enter_leads _ r)

pub returns-in-Place : goal.returns-in-Place
returns-in-Place c guard r = search (rules, place_leads _ r)

pub returns-in-End : goal.returns-in-End
returns-in-End c guard r = search (rules, end_leads _ r)

pub returns-in-Err : goal.returns-in-Err
returns-in-Err c guard r = search (rules, store_full _ r, ap is_ok c.in-Err.is)

pub returns-in-Err-set_length : goal.returns-in-Err-set_length
returns-in-Err-set_length c guard r = search (rules, count_full _ r, ap is_ok c.in-Err-set_length.is)

pub returns-else-n-le255 : goal.returns-else-n-le255
returns-else-n-le255 c guard r = search (rules, send_full _ r)

pub returns-in-Refuse : goal.returns-in-Refuse
returns-in-Refuse c guard r = search (rules, refuse_leads _ r)

pub returns-in-Away : goal.returns-in-Away
returns-in-Away c guard r = search (rules, away_leads _ r)

pub returns-in-Unit : goal.returns-in-Unit
returns-in-Unit c guard r = search (rules, back_leads _ r)

pub returns-in-Nowhere : goal.returns-in-Nowhere
returns-in-Nowhere c guard r = search (rules, nowhere_leads _ r)

pub returns-in-Page : goal.returns-in-Page
returns-in-Page c guard r = search (rules, fetch_leads _ r)
