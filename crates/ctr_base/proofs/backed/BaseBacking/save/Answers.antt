use Rattle.ctr_redo.specs.ctr_pool.Pages.{PageHeld}
use Rattle.std.proofs.Common.{refl}
use Rattle.ctr_base.specs.BaseLaws.{leaves_joined, moves_joined, puts_home}
use Rattle.ctr_base.specs.KeptLaws.{base_kept_on}
use Rattle.ctr_base.proofs.backed.BaseBacking.save.Goals as goal

pub put_home-requires-clause-goes : goal.put_home-requires-clause-goes
put_home-requires-clause-goes g c told =
    let r = c.requires.takes told in
    let e = c.in_ok-make_durable.ensures in
    let v : PageHeld = record { lsn = c.args.lsn; body = c.args.body.now } in
    record {
      rests = (e.moves told).1;
      since = r.1;
      may = (e.holds told).still c.args.page r.1 v r.2;
      durable = λ sound. e.durable told c.args.page r.1 v sound (r.2.sound sound) refl;
    }

pub returns-in_err-put_home-clause-keeps : goal.returns-in_err-put_home-clause-keeps
returns-in_err-put_home-clause-keeps g c = base_kept_on g.D.Disk c.args.self.now c.make_durable.new.self c.put_home.new.self c.make_durable.ensures.keeps c.put_home.ensures.keeps

pub returns-clause-keeps : goal.returns-clause-keeps
returns-clause-keeps g c = base_kept_on g.D.Disk c.args.self.now c.make_durable.new.self c.put_home.new.self c.make_durable.ensures.keeps c.put_home.ensures.keeps

pub returns-in_err-put_home-clause-goes : goal.returns-in_err-put_home-clause-goes
returns-in_err-put_home-clause-goes g c told sound =
    let e = c.in_ok-make_durable.ensures in
    leaves_joined g.D.Disk c.args.self.now c.make_durable.new.self c.put_home.new.self ((e.moves told).0 sound) (c.make_durable.ensures.goes told sound) (c.put_home.ensures.goes told sound)

pub returns-clause-goes : goal.returns-clause-goes
returns-clause-goes g c told sound =
    let e = c.in_ok-make_durable.ensures in
    leaves_joined g.D.Disk c.args.self.now c.make_durable.new.self c.put_home.new.self ((e.moves told).0 sound) (c.make_durable.ensures.goes told sound) (c.put_home.ensures.goes told sound)

pub returns-clause-moves : goal.returns-clause-moves
returns-clause-moves g c told =
    let one = c.in_ok-make_durable.ensures.moves told in
    let two = c.in_ok-put_home.ensures.moves told in
    (λ sound. moves_joined g.D.Disk c.args.self.now c.make_durable.new.self c.put_home.new.self (one.0 sound) (two.0 sound), two.1)

pub returns-clause-saved : goal.returns-clause-saved
returns-clause-saved g c told =
    let v : PageHeld = record { lsn = c.args.lsn; body = c.args.body.now } in
    puts_home g.D.Disk g.O.Origin.first c.args.self.now c.make_durable.new.self c.put_home.new.self c.args.page v (c.in_ok-make_durable.ensures.holds told) (c.in_ok-put_home.ensures.home told)
