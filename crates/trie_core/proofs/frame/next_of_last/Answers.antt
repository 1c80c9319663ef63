use Rattle.std.proofs.Common.{◌-◌, length, take}
use Rattle.trie_core.proofs.Tops.{by_last, last_set}
use Rattle.trie_core.proofs.frame.next_of_last.Goals as goal

pub returns : goal.returns
returns g c =
    let xs = c.args.frames.now in
    let item = c.in-Some.ensures.item in
    record {
      front = take (length xs - 1) xs;
      before = c.in-Some.last.now;
      after = c.next.new.self;
      was = by_last xs c.in-Some.last.now item.3.0 item.1;
      is = last_set xs c.in-Some.last.now c.next.new.self item.3.0 item.1;
      next = c.next.ensures.next;
      levels = c.next.ensures.levels;
      bits = c.next.ensures.bits;
    }
