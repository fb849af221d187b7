-- A command that ended before it began: nothing was done.
use Rattle.std.proofs.Common.{◌≡◌, ◌≢◌, ◌⊎◌, inl, inr, ℕ, ◌≤◌, [], refl, sym, ap, subst, ◌∙◌}
use Rattle.ctr_disk.specs.Image.{Image}
use Rattle.ctr_disk.specs.declared.disk.Disk.{Ghosts}
use Rattle.ctr_disk.specs.Device.{OnlyReads}
use Rattle.ctr_disk.proofs.Moments.{starts, weaker}
use Rattle.ctr_io.specs.declared.edges.Source.{Ghosts as Source}
use Rattle.ctr_log.specs.declared.opening.OpenError.TheVariants as open_error
use Rattle.ctr_record_effects.specs.Standing.{StandsForDatabase}
use Rattle.ctr_database.specs.Database.{IsNoneOrNewlyMade}
use Rattle.ctr_database.specs.ctr_run.declared.ran.RunEnd.TheVariants.{Unopened}
use Rattle.ctr_database.proofs.ctr_run.Ends.{untouched_for, untouched_in_order, untouched_leaves, untouched_over}
use Rattle.ctr_top.specs.declared.outcome.Outcome.{Outcome}
use Rattle.ctr_top.specs.declared.ending.Ending.{Ending}
use Rattle.ctr_top.specs.declared.ending.Ending.TheVariants as ending
use Rattle.ctr_top.specs.Top.{EndsBy, RanScript, RunCauses, ReportLeaves, Makes, MakeWhy, SourceWhy, IsByScript, IsFinished}

-- a command that was refused memory isn't finished
pub memory_not_fine : (e : Ending) → e ≡ ending.OutOfMemory → e ≢ ending.Finished
memory_not_fine e is fine = absurd (cc (sym is ∙ fine))

module _ {D : Type 0} (g : Ghosts D) (earlier : (d : D) (s t : ℕ) (c : Image) → s ≤ t → g.since d t c → g.since d s c) (only_now : (d : D) (c : Image) → g.since d (g.moment_of d) c → g.images d c)
    (old : D) (o : Outcome D) (disk : o.left.disk ≡ old) (tape : o.left.tape.entries ≡ []) (undone : o.left.undone ≡ 0) where
  pub quiet : OnlyReads g old o.left.disk
  quiet = subst (OnlyReads g old) (sym disk) (record { same = refl; now = λ c h. h; any_moment = starts g old (g.images old) (g.images old) (only_now old) (λ c h. h) })

  -- no script was read
  pub ran_unread : {S : Type 0} (s : Source S) (source : S) → o.ending ≢ ending.Finished → RanScript g old s source o
  ran_unread s source not = record {
    lines = [];
    script = record { of_bytes = ([], refl); script = λ _. inr tape; at_end = λ _ is. absurd (not is) };
    order = untouched_in_order g earlier only_now old [] o.left (IsFinished o) not tape undone disk;
    over = λ base told stands. untouched_over g earlier only_now old [] o.left (IsFinished o) not tape undone disk base;
  }

  -- memory was refused
  module _ (is : o.ending ≡ ending.OutOfMemory) where
    pub not_fine : o.ending ≢ ending.Finished
    not_fine = memory_not_fine o.ending is

    abbrev pub ends_refused : EndsBy g old o
    ends_refused = record {
      end = Unopened open_error.OutOfMemory;
      is = is;
      why = untouched_for g earlier only_now old [] o.left (IsFinished o) not_fine tape undone disk;
      none = λ error unopened. record {
        tape = tape;
        undone = undone;
        left = λ base told stands. untouched_leaves g earlier only_now old [] o.left (IsFinished o) not_fine tape undone disk base;
      };
      asked = λ base told stands. tt;
    }

    pub ran_refused : {S : Type 0} (s : Source S) (source : S) → RanScript g old s source o
    ran_refused s source = ran_unread s source not_fine

    pub causes_refused : {S : Type 0} (s : Source S) (source : S) → RunCauses g old s source source o
    causes_refused s source = record {
      by_disk = λ read. ends_refused;
      unread = λ unread. ((tape, undone), disk);
      by_source = subst (SourceWhy s source source) (sym is) tt;
      by_script = λ t. subst (IsByScript (s.left source)) (sym is) (record { wants = inr (inl refl); refused = λ line at r. inr (inr refl); too_long = λ long. inr (inr refl) });
      disk_calm = λ other. ap (λ d. g.faults_of d) disk;
      source_calm = λ other. refl;
    }

    pub makes_refused : Makes g old o
    makes_refused = record {
      any_moment = λ told none. weaker g old o.left.disk (g.images old) (λ c. g.images old c ⊎ IsNoneOrNewlyMade c) quiet.any_moment (λ c here. inl here);
      made = λ told fine. absurd (not_fine fine);
      untouched = λ told some. quiet;
      causes = subst (MakeWhy g old o.left.disk) (sym is) disk;
      none = (tape, undone);
      stray = ap (λ d. g.strays_of d) disk;
    }

    pub reports_refused : ReportLeaves g old o
    reports_refused = record {
      none = (tape, undone);
      left = λ base told stands. weaker g old o.left.disk (g.images old) (λ c. g.images old c ⊎ StandsForDatabase c base) quiet.any_moment (λ c here. inl here);
      causes = ends_refused;
      unbegun = λ stop stopped. absurd (cc stopped);
    }
