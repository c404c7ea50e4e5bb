use Rattle.std.proofs.Common.{[], ◌∷◌}
use Rattle.replica_file.proofs.LoadingLemmas.{feeds_dropped, feeds_one, feeds_refused, refused_many, wants_one}
use Rattle.replica_file.proofs.loading.Loading.take_one.Goals as goal

pub returns-then-not-self-clause-feeds : goal.returns-then-not-self-clause-feeds
returns-then-not-self-clause-feeds c = feeds_dropped _ _ (c.args.op ∷ []) c.if-not-self.true

pub returns-in-Ok-clause-feeds : goal.returns-in-Ok-clause-feeds
returns-in-Ok-clause-feeds c =
    feeds_one _ _ _ c.args.op c.if-not-self.false c.requires.sound (λ many. let no = c.in-Ok.ensures.too_many.1 many in cc no) c.in-Ok.ensures.held

pub returns-in-Err-TooMany-clause-feeds : goal.returns-in-Err-TooMany-clause-feeds
returns-in-Err-TooMany-clause-feeds c =
    let both = refused_many _ _ c.args.op _ _ c.in-Err-TooMany.field-0 c.in-Err-TooMany._most c.in-Err-TooMany.field-0-is c.in-Err-TooMany.ensures.too_many
    c.in-Err-TooMany.ensures.err in
    feeds_refused _ _ _ c.args.op c.if-not-self.false both.0 both.1

pub returns-in-Err-NoMemory-clause-memory : goal.returns-in-Err-NoMemory-clause-memory
returns-in-Err-NoMemory-clause-memory c =
    wants_one _ _ _ c.args.op _ _ _ c.if-not-self.false c.in-Err-NoMemory.field-0-is c.in-Err-NoMemory.ensures.err
