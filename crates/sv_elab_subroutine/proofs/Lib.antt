mod FormalLaws
mod ResultLaws
