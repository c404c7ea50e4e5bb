use Rattle.std.proofs.Common.{arith}
use Rattle.op_frame.proofs.GatherLemmas.{place_within, put_all, put_more, scalar_first_at}
use Rattle.op_frame.proofs.gather.put_scalars.Goals as goal

pub slice_bounds-first_scalar-count : goal.slice_bounds-first_scalar-count
slice_bounds-first_scalar-count c = place_within c.args.header.now c.args.bytes.now c.requires c.loop-place.place c.loop-place-test.true

pub slice_bounds-first_scalar-start : goal.slice_bounds-first_scalar-start
slice_bounds-first_scalar-start c = place_within c.args.header.now c.args.bytes.now c.requires c.loop-place.place c.loop-place-test.true

pub first_scalar-requires : goal.first_scalar-requires
first_scalar-requires c = scalar_first_at c.args.header.now c.args.bytes.now c.requires c.loop-place.place c.loop-place-test.true

pub loop-place-preserved : goal.loop-place-preserved
loop-place-preserved c = record {
  put = put_more c.args.header.now c.args.bytes.now c.requires c.loop-place.place c.loop-place-test.true c.args.text.now.items c.loop-place.text.items c.push.new.self.items
      c.first_scalar.result c.loop-place.invariant.put
      c.in-Ok.ensures.items c.first_scalar.ensures.split c.first_scalar.ensures.is;
  room = omega (arith, c.loop-place.invariant.room, c.in-Ok.ensures.capacity);
}

pub returns-clause-puts : goal.returns-clause-puts
returns-clause-puts c =
    put_all c.args.header.now c.args.bytes.now c.requires c.loop-place.place c.loop-place-test.false c.args.text.now.items c.loop-place.text.items c.loop-place.invariant.put
