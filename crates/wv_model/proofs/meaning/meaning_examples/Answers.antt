use Rattle.std.proofs.Common.{refl}
use Rattle.wv_model.proofs.MeaningExamples.{seven}
use Rattle.wv_model.proofs.meaning.meaning_examples.Goals as goal

pub returns-clause-prints : goal.returns-clause-prints
returns-clause-prints c = rw seven refl

pub returns-clause-hooked_prints : goal.returns-clause-hooked_prints
returns-clause-hooked_prints c = rw seven refl

pub returns-clause-cut : goal.returns-clause-cut
returns-clause-cut c = rw seven refl

pub returns-clause-hooked_cut : goal.returns-clause-hooked_cut
returns-clause-hooked_cut c = rw seven refl

pub returns-clause-called : goal.returns-clause-called
returns-clause-called c = rw seven refl

pub returns-clause-hooked_called : goal.returns-clause-hooked_called
returns-clause-hooked_called c = rw seven refl

pub returns-clause-deep : goal.returns-clause-deep
returns-clause-deep c = refl
