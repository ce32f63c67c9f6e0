use Rattle.wv_code.proofs.BodyWritten.{formed_on}
use Rattle.wv_code.proofs.laws.formed_stays.Goals as goal

pub returns : goal.returns
returns c = formed_on
