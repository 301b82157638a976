mod GivenLaws
mod GivenListLaws
mod ItemLaws
mod ProcedureLaws
mod StepLaws
