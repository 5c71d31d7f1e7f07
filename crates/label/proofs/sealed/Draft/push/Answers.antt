use Rattle.label.proofs.Tagging.{sealable_push}
use Rattle.label.proofs.sealed.Draft.push.Goals as goal

pub invariant_of-self : goal.invariant_of-self
invariant_of-self c =
    let d = c.args.self.now in
    record {
      some = d.some;
      short = d.short;
      right = rw c.push.ensures.items (sealable_push d.len d.tags.items c.args.tag d.right c.requires);
    }
