use Rattle.serde_json.specs.View.{view}
use Rattle.wv_mod.proofs.Keys.{schema-right, wrong-schema, wrong-id, wrong-version, wrong-provides, wrong-environment, wrong-mixins, wrong-depends, wrong-breaks}
use Rattle.wv_mod.proofs.manifest.Manifest.read.Goals as goal

pub returns-then-not-has_schema-clause-wrong : goal.returns-then-not-has_schema-clause-wrong
returns-then-not-has_schema-clause-wrong c = wrong-schema (view c.args.value.now) c.has_schema.result c.has_schema.ensures c.if-not-has_schema.true

pub returns-in_default-clause-wrong : goal.returns-in_default-clause-wrong
returns-in_default-clause-wrong c = wrong-id (view c.args.value.now) (schema-right (view c.args.value.now) c.has_schema.result c.has_schema.ensures c.if-not-has_schema.false) (rw c.in_default.is at c.in_ok-id.ensures)

pub returns-in_default-2-clause-wrong : goal.returns-in_default-2-clause-wrong
returns-in_default-2-clause-wrong c = wrong-version (view c.args.value.now) c.in-Some.id (schema-right (view c.args.value.now) c.has_schema.result c.has_schema.ensures c.if-not-has_schema.false) (rw c.in-Some.is at c.in_ok-id.ensures) (rw c.in_default-2.is at c.in_ok-version.ensures)

pub returns-in_default-3-clause-wrong : goal.returns-in_default-3-clause-wrong
returns-in_default-3-clause-wrong c = wrong-provides (view c.args.value.now) c.in-Some.id c.in-Some-2.version (schema-right (view c.args.value.now) c.has_schema.result c.has_schema.ensures c.if-not-has_schema.false) (rw c.in-Some.is at c.in_ok-id.ensures) (rw c.in-Some-2.is at c.in_ok-version.ensures) (rw c.in_default-3.is at c.in_ok-provides.ensures)

pub returns-in_default-4-clause-wrong : goal.returns-in_default-4-clause-wrong
returns-in_default-4-clause-wrong c = wrong-environment (view c.args.value.now) c.in-Some.id c.in-Some-2.version c.in-Some-3.provides (schema-right (view c.args.value.now) c.has_schema.result c.has_schema.ensures c.if-not-has_schema.false) (rw c.in-Some.is at c.in_ok-id.ensures) (rw c.in-Some-2.is at c.in_ok-version.ensures) (rw c.in-Some-3.is at c.in_ok-provides.ensures) (rw c.in_default-4.is at c.in_ok-environment.ensures)

pub returns-in_default-5-clause-wrong : goal.returns-in_default-5-clause-wrong
returns-in_default-5-clause-wrong c = wrong-mixins (view c.args.value.now) c.in-Some.id c.in-Some-2.version c.in-Some-3.provides c.in-Some-4.environment (schema-right (view c.args.value.now) c.has_schema.result c.has_schema.ensures c.if-not-has_schema.false) (rw c.in-Some.is at c.in_ok-id.ensures) (rw c.in-Some-2.is at c.in_ok-version.ensures) (rw c.in-Some-3.is at c.in_ok-provides.ensures) (rw c.in-Some-4.is at c.in_ok-environment.ensures) (rw c.in_default-5.is at c.in_ok-mixins.ensures)

pub returns-in_default-6-clause-wrong : goal.returns-in_default-6-clause-wrong
returns-in_default-6-clause-wrong c = wrong-depends (view c.args.value.now) c.in-Some.id c.in-Some-2.version c.in-Some-3.provides c.in-Some-4.environment c.in-Some-5.mixins (schema-right (view c.args.value.now) c.has_schema.result c.has_schema.ensures c.if-not-has_schema.false) (rw c.in-Some.is at c.in_ok-id.ensures) (rw c.in-Some-2.is at c.in_ok-version.ensures) (rw c.in-Some-3.is at c.in_ok-provides.ensures) (rw c.in-Some-4.is at c.in_ok-environment.ensures) (rw c.in-Some-5.is at c.in_ok-mixins.ensures) (rw c.in_default-6.is at c.in_ok-depends.ensures)

pub returns-in_default-7-clause-wrong : goal.returns-in_default-7-clause-wrong
returns-in_default-7-clause-wrong c = wrong-breaks (view c.args.value.now) c.in-Some.id c.in-Some-2.version c.in-Some-3.provides c.in-Some-4.environment c.in-Some-5.mixins c.in-Some-6.depends (schema-right (view c.args.value.now) c.has_schema.result c.has_schema.ensures c.if-not-has_schema.false) (rw c.in-Some.is at c.in_ok-id.ensures) (rw c.in-Some-2.is at c.in_ok-version.ensures) (rw c.in-Some-3.is at c.in_ok-provides.ensures) (rw c.in-Some-4.is at c.in_ok-environment.ensures) (rw c.in-Some-5.is at c.in_ok-mixins.ensures) (rw c.in-Some-6.is at c.in_ok-depends.ensures) (rw c.in_default-7.is at c.in_ok-breaks.ensures)
