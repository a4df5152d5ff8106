use Rattle.oxts_gateway.proofs.sessions.relay.Goals as goal

pub returns : goal.returns
returns g c =
    record {
      relayed = λ h rep.
          let is = c.pump.ensures.answer in
          let read = rep.reads.pumped in
          let ran = c.pump.ensures.run h rep in
          c.take.ensures.run _ (rw (is, read) at ran);
    }
