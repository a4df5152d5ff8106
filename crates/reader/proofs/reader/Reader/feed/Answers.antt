use Rattle.std.proofs.Common.{[], ◌++◌, length, ap, ◌∙◌, sym, arith, rules, append_assoc, length-append}
use Rattle.std.specs.Slice.Iter.{chunks_rest}
use Rattle.reader.proofs.Feeding.{ran_none, ran_both}
use Rattle.reader.proofs.reader.Reader.feed.Goals as goal

pub loop-block-init : goal.loop-block-init
loop-block-init g c =
    record {
      can_next = search rules;
      is_finite = tt;
      size = search rules;
      pumped = search rules;
      ran = ([], search rules, ran_none g.F.Family.model g.S.Sink.took _ _);
    }

pub loop-block-preserved : goal.loop-block-preserved
loop-block-preserved g c =
    let before = c.loop-block.invariant in
    let xs = before.ran.0 in
    let block = c.in-Some.block.now in
    let left = chunks_rest c.next.new.self in
    let steps = c.in-Some.ensures.steps in
    record {
      can_next = search rules;
      is_finite = tt;
      size = search rules;
      pumped = omega (arith, ap length steps.1.0, length-append block left);
      ran = (
        xs ++ block,
        append_assoc xs block left ∙ ap (λ z. xs ++ z) (sym steps.1.0) ∙ before.ran.1,
        ran_both g.F.Family.model g.S.Sink.took _ _ _ _ _ _ _ _ before.ran.2 c.take_in.ensures.ran,
      );
    }
