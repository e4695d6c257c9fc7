-- Plans of worked runs.
use Rattle.std.specs.Prelude.{refl}
use Rattle.plan_reader.specs.Ranges.{commands_of}
use Rattle.plan_reader.specs.Settings.{IsWithin, PlanSettings}
use Rattle.plan_reader.specs.declared.plan.Plan.{Plan}

-- The plan with these settings.
abbrev pub plan_with : (s : PlanSettings) → IsWithin s → Plan
plan_with s within =
    record {
      cpus = s.cpus;
      queues = s.queues;
      key = s.key;
      kinds = s.kinds;
      reta = s.reta;
      sock = s.sock;
      filters = s.filters;
      backlog = s.backlog;
      start = s.start;
      limited = s.limited;
      apps = s.apps;
      tx = s.tx;
      workers = s.workers;
      tries = s.tries;
      detach = s.detach;
      steps = s.steps;
      commands = commands_of s.steps;
      commands_are = refl;
      within = within;
    }
