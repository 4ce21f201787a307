-- What a run over a crash does.
use Rattle.std.specs.Prelude.{◌≡◌, ℕ, List, ◌++◌}
use Rattle.site_io.specs.Disk.{images_of}
use Rattle.site_io.specs.declared.mem_site.MemSite.{MemSite}
use Rattle.site_io.specs.declared.site.Site.{Ghosts as SiteGhosts}
use Rattle.ad_dir_model.specs.Directory.{Directory}
use Rattle.ad_frames.specs.declared.frame.Frame.{Frame}
use Rattle.ad_engine.specs.Runs.{out, after}
use Rattle.cmd_store_open.specs.Lines.{objects_line}
use Rattle.cmd_store_serve.specs.serving.Crash.{IsCrash}
use Rattle.ad_engine.specs.Runs.{after_first}
use Rattle.cmd_store_laws.specs.declared.story.Run.{Run}
use Rattle.cmd_store_laws.specs.Holding.{Holds, IsAnswered, IsOpened}

-- Of a directory that was loaded, the frames before a crash and those after it. A site in memory tells all.
pub record IsRun (site : SiteGhosts MemSite) (dir : Directory) (frames more : List Frame) (run : Run) : Type 0 where
  -- before the crash this was emitted, after the line of the loaded directory
  pub emitted : List ℕ
  pub output : run.crash.out.items ≡ objects_line dir ++ emitted
  -- the crash left the directory after a prefix of the frames, among which is each of whose answer a byte was emitted
  pub crash : IsCrash dir frames (images_of run.crash.a.items run.crash.b.items) emitted
  -- which is opened, both times
  pub opens_before : IsOpened run.before
  pub opens_behind : IsOpened run.behind
  -- and from which the frames after it are answered
  pub answers : IsAnswered run.behind → Holds site (after (after_first dir frames crash.n) more)
      (out (after_first dir frames crash.n) more) run.site
