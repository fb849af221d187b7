use Rattle.std.proofs.Common.{◌+◌, ◌^◌, false, length, arith}
use Rattle.ctr_base.specs.Base.{now_of}
use Rattle.ctr_base.specs.redo_States.{state_of, page_at}
use Rattle.ctr_store.proofs.BufferLaws.{empty_buffer}
use Rattle.ctr_store.proofs.NumberLaws.{within_more}
use Rattle.ctr_store.proofs.StoreLaws.{rests_seen}
use Rattle.ctr_store.proofs.store.Store.open.Goals as goal

pub returns-in-Ok-clause-durable : goal.returns-in-Ok-clause-durable
returns-in-Ok-clause-durable g c told sound =
    let d = g.D.Disk in
    let s = c.in-Ok.parts in
    rests_seen d g.O.Origin.first g.met.D.Disk.only_now s false (empty_buffer s.base.log c.in-Ok.ensures.ready.room) (c.in-Ok.ensures.answer told).1.fold sound

pub invariant_of-result : goal.invariant_of-result
invariant_of-result g c =
    let s = c.in-Ok.parts in
    let e = c.in-Ok.ensures in
    record {
      fold = λ told going. (e.answer told).1.fold;
      recalls = λ told sound going. c.new.ensures s.base.root.pages (λ p. page_at p (state_of (now_of g.D.Disk s.base)).pages);
      buffer = empty_buffer s.base.log e.ready.room;
      counted = e.ready.pages;
      numbers =
          let lsn = s.base.log.first + length s.base.log.buffered in
          let next = e.ready.next in
          let xid = e.ready.xid in
          (within_more (2 ^ 62) (2 ^ 63) (2 ^ 62 + lsn) (2 ^ 63 + lsn) s.meta.tables (omega arith) (omega arith) (omega (arith, xid), e.ready.heads), omega (arith, next));
    }
