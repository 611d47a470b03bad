-- `reading::show_record` meets its contract.
use Rattle.reading.proofs.ShowLaws.{record_shown}
use Rattle.reading.proofs.show_record.Goals as goal

pub returns-in-Some : goal.returns-in-Some
returns-in-Some c = record_shown _ _ _ _ c.if-service-lt1.false c.if-service-gt16.false _ c.find_record.ensures _ c.in-Some.is _ c.record_type.ensures _ c.record_value.ensures.0 c.record_value.ensures.1 c.show.ensures
