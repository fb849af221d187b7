use Rattle.ctr_redo.specs.ctr_pool.Pages.{PageHeld}
use Rattle.ctr_base.proofs.ReadLaws.{above_value}
use Rattle.ctr_base.proofs.HomeLaws.{since_written}
use Rattle.ctr_base.specs.BaseLaws.{home_leaves, home_moves, home_quiet, is_home, stands_written}
use Rattle.ctr_base.proofs.base.Base.put_home.Goals as goal

pub write_home-requires-clause-above : goal.write_home-requires-clause-above
write_home-requires-clause-above g c told =
    let a = c.args.self.now in
    let may = (c.requires.goes told).may in
    above_value a.root.pages c.args.page (g.D.Disk.reads a.disk) c.args.lsn may.counted may.above

pub returns-in_err-write_home-clause-goes : goal.returns-in_err-write_home-clause-goes
returns-in_err-write_home-clause-goes g c told sound =
    let r = c.requires.goes told in
    let quiet = r.rests.quiet sound in
    home_leaves g.D.Disk c.args.self.now c.write_home.new.disk c.args.page r.since (record { lsn = c.args.lsn; body = c.args.body.now }) quiet (r.may.sound sound) (r.durable sound)
    (c.write_home.ensures.any_moment (record { told = told; only = quiet.only }))

pub returns-clause-goes : goal.returns-clause-goes
returns-clause-goes g c told sound =
    let r = c.requires.goes told in
    let quiet = r.rests.quiet sound in
    home_leaves g.D.Disk c.args.self.now c.write_home.new.disk c.args.page r.since (record { lsn = c.args.lsn; body = c.args.body.now }) quiet (r.may.sound sound) (r.durable sound)
    (c.write_home.ensures.any_moment (record { told = told; only = quiet.only }))

pub returns-clause-moves : goal.returns-clause-moves
returns-clause-moves g c told =
    let d = g.D.Disk in
    let a = c.args.self.now in
    let p = c.args.page in
    let r = c.requires.goes told in
    let e = c.in_ok-write_home.ensures in
    let w = e.written told in
    let new = c.write_home.new.disk in
    let v : PageHeld = record { lsn = c.args.lsn; body = c.args.body.now } in (
      λ sound. home_moves d a new p r.since v (r.rests.quiet sound) (r.may.sound sound) (r.durable sound) w.0 w.1,
      record {
        stands = stands_written d a new p v r.may.counted w.0 w.1 r.rests.stands;
        since = since_written g.O.Origin.first a.root.pages p v.lsn v.body (d.reads a.disk) (d.reads new) r.may.counted r.may.above w.0 w.1 r.rests.since;
        quiet = λ sound. home_quiet d a new p r.since v (r.rests.quiet sound) (r.may.sound sound) (r.durable sound) w.0 w.1 e.durable;
      },
    )

pub returns-clause-home : goal.returns-clause-home
returns-clause-home g c told =
    let r = c.requires.goes told in
    let w = c.in_ok-write_home.ensures.written told in
    is_home g.D.Disk c.args.self.now c.write_home.new.disk c.args.page (record { lsn = c.args.lsn; body = c.args.body.now }) r.may.counted w.0 w.1
