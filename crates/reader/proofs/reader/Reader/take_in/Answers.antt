use Rattle.std.proofs.Common.{◌+◌, length, sym, ap, ◌∙◌, length-append}
use Rattle.reader.proofs.Feeding.{taken}
use Rattle.reader.proofs.reader.Reader.take_in.Goals as goal

pub returns-clause-ran : goal.returns-clause-ran
returns-clause-ran g c = λ bs st.
    let xs = c.args.block.now in
    let next = c.next_check-next.ensures in
    let scan = c.scan-left.ensures in
    let done = taken g.F.Family.model g.S.Sink.took g.F.Family.laws c.append.new.self xs
    c.append.ensures.bytes c.bytes-2.ensures (rw c.bytes.ensures at next.above) (rw c.bytes.ensures at next.waits) scan.within scan.moves
    c.keep.ensures.bytes c.keep.ensures.held c.make_room.ensures.kept bs st.held st.agrees in
    (record { pumped = ap (λ n. n + length xs) st.pumped ∙ sym (length-append bs xs); held = done.0; agrees = done.1 }, done.2)
