use Rattle.std.proofs.Common.{◌<◌, sym, arith}
use Rattle.std.proofs.lemmas.List.{length-take-le}
use Rattle.reader.proofs.Moves.{stepped_wait, stepped_early, stepped_fault, stepped_whole}
use Rattle.reader.proofs.Progressing.{left_all, left_behind, passed_from}
use Rattle.reader.proofs.scan.step.Goals.{in-Wait, in-Early, in-Fault, in-Whole}
use Rattle.reader.proofs.scan.step.Goals as goal

pub returns-clause-moves : goal.returns-clause-moves
returns-clause-moves g c =
    let m = g.F.Family.model in
    let took = g.S.Sink.took in
    let rest = c.args.cursor.rest.now in
    let n = c.args.cursor.next in
    let some = c.args.cursor.some in
    let within = c.requires.within in
    let long = length-take-le n rest within in
    elim c.match-judge.branch [
      | in-Wait w ↦
          let next = w.next_check in
          let above : n < next.result = omega (arith, next.ensures.above) in
          rw (w.result-is, w.ledger-is, w.sink-is) (stepped_wait m took some within (sym w.in-Wait.ensures.value) above next.ensures.waits)
      | in-Early w ↦
          let next = w.next_check-in-Early in
          let above : n < next.result = omega (arith, next.ensures.above) in
          rw (w.result-is, w.ledger-is, w.sink-is)
          (stepped_early m took some within (sym w.in-Early.ensures.value) above next.ensures.waits w.tell.ensures.ledger w.tell.ensures.sink)
      | in-Fault w ↦
          let on = w.pass_quiet in
          rw (w.result-is, w.ledger-is, w.sink-is)
          (stepped_fault m took some within (sym w.in-Fault.ensures.value) w.skip.ensures.ledger (passed_from rest 1 on.ensures.passed) on.result.some on.ensures.waits w.skip.ensures.sink)
      | in-Whole w ↦
          let on = w.pass_quiet-in-Whole in
          rw (w.result-is, w.ledger-is, w.sink-is)
          (stepped_whole m took some within (sym w.in-Whole.ensures.value) w.absorb.ensures.after w.accept.ensures.ledger (passed_from rest n on.ensures.passed) on.result.some on.ensures.waits w.accept.ensures.sink)
    ]

pub returns-clause-left : goal.returns-clause-left
returns-clause-left g c =
    let rest = c.args.cursor.rest.now in
    let n = c.args.cursor.next in
    elim c.match-judge.branch [
      | in-Wait w ↦ rw w.result-is (left_all rest)
      | in-Early w ↦ rw w.result-is (left_all rest)
      | in-Fault w ↦ rw w.result-is (left_behind rest 1 (omega arith) (passed_from rest 1 w.pass_quiet.ensures.passed))
      | in-Whole w ↦ rw w.result-is (left_behind rest n c.requires.within (passed_from rest n w.pass_quiet-in-Whole.ensures.passed))
    ]
