use Rattle.wv_classes.proofs.OneReading.{one-reading}
use Rattle.wv_classes.proofs.laws.one_reading.Goals as goal

pub returns : goal.returns
returns c = one-reading
