use Rattle.std.proofs.Common.{◌≡◌, [], ◌∷◌, ap, ◌∙◌, arith}
use Rattle.past.specs.Entries.{holding, added}
use Rattle.past.proofs.Adding.{placed, turned}
use Rattle.past.proofs.Past.add.Goals as goal
use Rattle.past.proofs.Past.add.Goals.{then-self, else-self}

pub returns-then-self-2 : goal.returns-then-self-2
returns-then-self-2 g c =
    let s = c.if-self.self in
    let old = c.args.self.now in
    let same : holding s ≡ holding old = elim c.if-self.branch [
      | then-self w ↦ ap holding w.self-is ∙ turned old.places.now old.places.ghost_name old.held old.next (omega arith)
      | else-self w ↦ ap holding w.self-is
    ] in
    placed s.places.now s.next c.args.x (omega arith) s.places.ghost_name s.held c.max-self.result c.max-self.ensures s.room s.within s.round
    ∙ ap (added (c.args.x ∷ [])) same
