use Rattle.mg_top.proofs.top.run_task.Goals as goal

pub returns-in-Named : goal.returns-in-Named
returns-in-Named g c = λ err err_now. rw c.in-Named.is (c.run_named.ensures err err_now)

pub returns-in-Build : goal.returns-in-Build
returns-in-Build g c = λ err err_now. rw c.in-Build.is (c.run_build.ensures.does _ err err_now)

pub returns-in-Migrate : goal.returns-in-Migrate
returns-in-Migrate g c = λ err err_now. rw c.in-Migrate.is (c.run_migrate.ensures.does _ err err_now)

pub returns-in-Merge : goal.returns-in-Merge
returns-in-Merge g c = λ err err_now. rw c.in-Merge.is (c.run_merge.ensures.does _ err err_now)

pub returns-in-Trial : goal.returns-in-Trial
returns-in-Trial g c = λ err err_now. rw c.in-Trial.is (c.run_trial.ensures.does _ _ err err_now)
