pub mod BeforeLaws
mod SpotLaws
mod SystemLaws
mod TypeLaws
