use Rattle.std.proofs.Common.{◌++◌, IsOk, sym, ap, ◌∙◌, rules}
use Rattle.reading.specs.Reading.{reading}
use Rattle.navlog.proofs.Gathered.{gathered}
use Rattle.navlog.proofs.log.read_piece.Goals as goal

pub returns : goal.returns
returns g c =
    let kept : IsOk c.feed.new.sink.kept = search rules in
    record {
      read = λ bs stands.
          let done = c.in_ok-feed.ensures.fed.1 bs stands in
          let news = done.1 in
          let all = (gathered _ news.messages c.feed.new.sink news.handed kept).1 ∙ ap (λ x. x ++ news.messages) c.clear.ensures.empty.0 in
          (done.0, news.beyond ∙ ap (λ x. (reading g.F.Family.model bs).tally.messages ++ x) (sym all));
    }
