use Rattle.std.proofs.Common.{refl, arith, ◌∷◌, [], length-append}
use Rattle.origin_model.specs.taking.Taking.{Again, Conflict, Stray, Full, Waits, answer_counted}
use Rattle.replica_core.proofs.FeedLemmas.{IsFedState, refused_fed, taken_fed, accepted_fed, accepted_partly, waits_settled}
use Rattle.replica_core.proofs.open_replica.OpenReplica.feed.Goals as goal

accepted : (c : goal.In-Ok) → IsFedState c.args.self.now.state c.args.op c.args.tally.now c.settle.new.self.state c.settle.new.tally
accepted c =
    let told = rw c.in-Ok-Accepted.field-0-is at c.in-Ok-Accepted.ensures.answer in
    accepted_fed c.args.self.now.state c.deliver.new.self.state c.settle.new.self.state c.args.op c.args.tally.now c.settle.new.tally told c.in-Ok-Accepted.ensures.ok
    c.in-Ok.ensures.settles.way c.in-Ok.ensures.settles.ended

pub returns-in-Ok-clause-held : goal.returns-in-Ok-clause-held
returns-in-Ok-clause-held c = (accepted c).held

pub returns-in-Ok-clause-tally : goal.returns-in-Ok-clause-tally
returns-in-Ok-clause-tally c = (accepted c).counted

pub returns-in-Err-clause-err : goal.returns-in-Err-clause-err
returns-in-Err-clause-err c =
    let told = rw c.in-Ok-Accepted.field-0-is at c.in-Ok-Accepted.ensures.answer in
    accepted_partly c.args.self.now.state c.deliver.new.self.state c.settle.new.self.state c.args.op c.args.tally.now c.settle.new.tally told c.in-Ok-Accepted.ensures.ok
    c.in-Err.ensures.settles.way c.in-Err.ensures.settles.stopped

waits : (c : goal.In-Ok-Waits) → IsFedState c.args.self.now.state c.args.op c.args.tally.now c.deliver.new.self.state c.args.tally.now
waits c =
    let told = rw c.in-Ok-Waits.field-0-is at c.in-Ok-Waits.ensures.answer in
    taken_fed c.args.self.now.state c.deliver.new.self.state c.args.op Waits c.args.tally.now told
    (waits_settled c.args.self.now.state.hold c.args.self.now.state.most c.args.self.now.state.held c.args.op told c.requires.settled) c.in-Ok-Waits.ensures.ok
    (omega (arith, length-append c.args.self.now.state.held.waiting (c.args.op ∷ [])))

pub returns-in-Ok-Waits-clause-held : goal.returns-in-Ok-Waits-clause-held
returns-in-Ok-Waits-clause-held c = (waits c).held

pub returns-in-Ok-Waits-clause-tally : goal.returns-in-Ok-Waits-clause-tally
returns-in-Ok-Waits-clause-tally c = (waits c).counted

pub returns-in-Ok-Again-clause-held : goal.returns-in-Ok-Again-clause-held
returns-in-Ok-Again-clause-held c =
    let told = rw c.in-Ok-Again.field-0-is at c.in-Ok-Again.ensures.answer in
    (taken_fed c.args.self.now.state c.deliver.new.self.state c.args.op Again c.args.tally.now told c.requires.settled c.in-Ok-Again.ensures.ok (omega arith)).held

pub returns-in-Ok-Again-clause-tally : goal.returns-in-Ok-Again-clause-tally
returns-in-Ok-Again-clause-tally c =
    let told = rw c.in-Ok-Again.field-0-is at c.in-Ok-Again.ensures.answer in
    (taken_fed c.args.self.now.state c.deliver.new.self.state c.args.op Again c.args.tally.now told c.requires.settled c.in-Ok-Again.ensures.ok (omega arith)).counted

conflict : (c : goal.Joined-op) → IsFedState c.args.self.now.state c.args.op c.args.tally.now c.deliver.new.self.state (answer_counted Conflict c.args.tally.now)
conflict c =
    let told = rw c.in-Err-Conflict.field-0-is at c.in-Err-Conflict.ensures.answer in
    refused_fed c.args.self.now.state c.deliver.new.self.state c.args.op Conflict c.args.tally.now told.0 refl c.requires.settled c.in-Err-Conflict.ensures.err (omega arith)

pub returns-in-Err-Conflict-clause-held : goal.returns-in-Err-Conflict-clause-held
returns-in-Err-Conflict-clause-held c = (conflict c).held

pub returns-in-Err-Conflict-clause-tally : goal.returns-in-Err-Conflict-clause-tally
returns-in-Err-Conflict-clause-tally c = (conflict c).counted

stray : (c : goal.Joined-op-2) → IsFedState c.args.self.now.state c.args.op c.args.tally.now c.deliver.new.self.state (answer_counted (Stray c.in-Err-Stray._id) c.args.tally.now)
stray c =
    let told = rw c.in-Err-Stray.field-0-is at c.in-Err-Stray.ensures.answer in
    refused_fed c.args.self.now.state c.deliver.new.self.state c.args.op (Stray c.in-Err-Stray._id) c.args.tally.now told.0 refl c.requires.settled c.in-Err-Stray.ensures.err
    (omega arith)

pub returns-in-Err-Stray-clause-held : goal.returns-in-Err-Stray-clause-held
returns-in-Err-Stray-clause-held c = (stray c).held

pub returns-in-Err-Stray-clause-tally : goal.returns-in-Err-Stray-clause-tally
returns-in-Err-Stray-clause-tally c = (stray c).counted

full : (c : goal.Joined-op-3) → IsFedState c.args.self.now.state c.args.op c.args.tally.now c.deliver.new.self.state (answer_counted Full c.args.tally.now)
full c =
    let told = rw c.in-Err-Full.field-0-is at c.in-Err-Full.ensures.answer in
    refused_fed c.args.self.now.state c.deliver.new.self.state c.args.op Full c.args.tally.now told.0 refl c.requires.settled c.in-Err-Full.ensures.err (omega arith)

pub returns-in-Err-Full-clause-held : goal.returns-in-Err-Full-clause-held
returns-in-Err-Full-clause-held c = (full c).held

pub returns-in-Err-Full-clause-tally : goal.returns-in-Err-Full-clause-tally
returns-in-Err-Full-clause-tally c = (full c).counted

pub returns-in-Ok-clause-once : goal.returns-in-Ok-clause-once
returns-in-Ok-clause-once c = (accepted c).once

pub returns-in-Ok-Waits-clause-once : goal.returns-in-Ok-Waits-clause-once
returns-in-Ok-Waits-clause-once c = (waits c).once

pub returns-in-Ok-Waits-clause-settled : goal.returns-in-Ok-Waits-clause-settled
returns-in-Ok-Waits-clause-settled c = (waits c).settled
