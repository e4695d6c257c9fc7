use Rattle.workers.proofs.running.run_to_the_end.Goals as goal

pub run_all-run-requires : goal.run_all-run-requires
run_all-run-requires g c κs within = (
  search,
  (
    search,
    (
      search,
      (
        search,
        (
          c.requires.1.1.1.1.0,
          (
            c.requires.1.1.1.1.1.0,
            (c.requires.1.1.1.1.1.1.0, c.requires.1.1.1.1.1.1.1.0),
          ),
        ),
      ),
    ),
  ),
)
