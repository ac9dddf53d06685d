use Rattle.amqp_owing.proofs.Owing.{owed-said, owed-header}
use Rattle.amqp_owing.proofs.Changes.{owed-heard}
use Rattle.amqp_owing.proofs.Behind.{heard-behind, fits-so}
use Rattle.amqp_owing.proofs.laws.replies_are_faultless.Goals as goal

pub returns-clause-first : goal.returns-clause-first
returns-clause-first c = owed-header

pub returns-clause-said : goal.returns-clause-said
returns-clause-said c = λ numbers p p' rs s f most h said fits. owed-said numbers p p' rs s h f most said fits

pub returns-clause-heard : goal.returns-clause-heard
returns-clause-heard c = owed-heard

pub returns-clause-behind : goal.returns-clause-behind
returns-clause-behind c = λ numbers fs rs p r s s' most h later is. heard-behind numbers most fs p r rs s s' h later is

pub returns-clause-fits : goal.returns-clause-fits
returns-clause-fits c = λ p p' rs s f h said suits. fits-so p p' rs s h f said suits
