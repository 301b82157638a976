mod References
