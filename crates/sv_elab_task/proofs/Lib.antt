mod CallLaws
mod RowLaws
mod TaskLaws
