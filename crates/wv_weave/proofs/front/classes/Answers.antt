use Rattle.wv_classes.proofs.Loading.{are-loaded, first-broken}
use Rattle.wv_weave.proofs.front.classes.Goals as goal

pub returns-in-Ok-clause-loaded : goal.returns-in-Ok-clause-loaded
returns-in-Ok-clause-loaded c = λ folder side are. are-loaded folder side c.args.files.items c.in-Ok.classes.items are c.in-Ok.ensures.loaded

pub returns-in-Err-Broken-clause-broken : goal.returns-in-Err-Broken-clause-broken
returns-in-Err-Broken-clause-broken c = λ folder side are.
    first-broken folder side c.args.files.items are c.in-Err-Broken.broken (rw c.in-Err-Broken.field-0-is at c.in-Err-Broken.ensures.fault)
